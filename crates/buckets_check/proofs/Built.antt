-- What passes every step of the check holds a ledger: the lists that the levels' check found, read with keys and epochs, and the free order
-- that the arena's check found. Each slot stands in one of the two since the tables agree on it, and a key stands once since two slots in
-- the index never have one key.
use mathlib.Core.Path.{◌≡◌, refl, sym, ◌∙◌}
use mathlib.Core.Logic.{◌≢◌, ◌↔◌}
use mathlib.Core.List.{List, [], ◌∷◌}
use Prim.Native.Nat.{ℕ, ◌+◌, ◌≤◌, ◌<◌}
use native.Mathlib.Omega.{arith}
use lib.ListN.{length}
use Rattle.lists.specs.Lists.{All, Distinct, sum, one, times}
use Rattle.lists.proofs.Tests.{by_eq, by_lt, if_eq, one_other}
use Rattle.lists.proofs.Members.{all_of, all_both, in_times, sum_append}
use Rattle.ledger.specs.Ledger as ledger
use Rattle.ledger.specs.Ledger.{Ledger, Item, tag, items, NonEmpty, keyed, WellFormed}
use Rattle.ledger.proofs.Slots.{below_yes, below_not}
use Rattle.links.specs.Chain.{cells}
use Rattle.key_index.specs.Index as index
use Rattle.key_index.proofs.Listing.{has_one}
use Rattle.key_index.specs.Index.{IndexSound}
use Rattle.levels.specs.Levels as levels
use Rattle.levels.specs.Levels.{members, LevelsRise}
use Rattle.levels.proofs.One.{held_distinct, held_rising}
use Rattle.buckets_tables.specs.declared.State.{State}
use Rattle.buckets_tables.specs.Tables.{Tables, leveled}
use Rattle.buckets_tables.specs.Holds.{entries_at, levels_at, Blank, Holds, BoundSlot}
use Rattle.buckets_tables.proofs.Entries.{slotted_members}
use Rattle.buckets_tables.proofs.Steps.{lowest_levels}
use Rattle.buckets_check.specs.Check.{Off, On, Agree, Passes, SlotAllowed}
use Rattle.buckets_check.proofs.Sides.{listed_past, listed_free, listed_bound, free_past, free_used, free_unused, bound_used}

-- Lists of slots as the ledger's lists

module _ (k e : List ℕ) where
  some_entries : (ss : List ℕ) → 0 < length ss → NonEmpty (entries_at k e ss)
  some_entries [] h = absurd (omega arith)
  some_entries (s ∷ ss) h = tt

  rising_at : (f : ℕ) (ls : List levels.Level) → LevelsRise f ls → ledger.Rising f (levels_at k e ls)
  rising_at f [] r = tt
  rising_at f (l ∷ ls) r = (r.0, r.1, some_entries l.slots r.2, rising_at l.freq ls r.3)

  -- how often a key stands among the items is how often it stands at the slots of the lists
  keyed_tag : (j f : ℕ) (ss : List ℕ) (zs : List Item) → keyed j (tag f (entries_at k e ss) zs) ≡ sum (λ x. one (cells k x) j) ss + keyed j zs
  keyed_tag j f [] zs = omega arith
  keyed_tag j f (s ∷ ss) zs = let ih = keyed_tag j f ss zs in omega arith

  keyed_members : (j : ℕ) (ls : List levels.Level) → keyed j (items (levels_at k e ls)) ≡ sum (λ x. one (cells k x) j) (members ls)
  keyed_members j [] = refl
  keyed_members j (l ∷ ls) =
      let ih = keyed_members j ls in
      let t = keyed_tag j l.freq l.slots (items (levels_at k e ls)) in
      let a = sum_append (λ x. one (cells k x) j) l.slots (members ls) in
      omega arith

-- Distinct slots in the index have distinct keys

module _ (i k : List ℕ) (sound : IndexSound i k) (j : ℕ) where
  no_other : (xs : List ℕ) → All (λ x. cells k x ≢ j) xs → sum (λ x. one (cells k x) j) xs ≡ 0
  no_other [] h = refl
  no_other (x ∷ xs) h = let r = no_other xs h.1 in omega (arith, one_other (cells k x) j h.0)

  key_once : (xs : List ℕ) → Distinct xs → All (index.Has i k) xs → sum (λ x. one (cells k x) j) xs ≤ 1
  key_once [] d h = omega arith
  key_once (x ∷ xs) d h =
      if_eq (λ n. n + sum (λ y. one (cells k y) j) xs ≤ 1) (cells k x) j
      (λ e.
      let z = no_other xs (all_both (λ y. y ≢ x) (index.Has i k) (λ y. cells k y ≢ j) (λ y q g f. q (has_one i k sound y x g h.0 (f ∙ sym e))) xs d.0 h.1) in
      omega arith)
      (λ n. let r = key_once xs d.1 h.1 in omega arith)

module _ (t : Tables) (s : State) (fit : SlotAllowed t s.capacity) (p : Passes t s) where
  abbrev ls : List levels.Level
  ls = p.lists_sound.0

  abbrev free : List ℕ
  free = p.arena_sound.0

  -- the ledger
  abbrev l : Ledger
  l = record { capacity = s.capacity; epoch = s.epoch; levels = levels_at t.keys t.epochs ls; free = free }

  -- Each slot on one side

  module _ (x : ℕ) (b : x < s.capacity) where
    agreed : Agree t.keys t.epochs t.nexts t.arena t.index x
    agreed = p.agree x (let k = fit.sized.keys_size in omega arith)

    in_lists : x < length t.freqs
    in_lists = let f = fit.sized.freqs_size in omega arith

    in_arena : x < length t.arena
    in_arena = let a = fit.sized.arena_size in omega arith

    free_once : cells t.nexts x ≡ x → (times x (members ls) ≡ 0) × (times x free ≡ 1)
    free_once e = (
      listed_free (leveled t) s.buckets ls p.lists_sound.1 x in_lists e,
      free_unused t.arena s.free free p.arena_sound.1 x in_arena (agreed.free e).unused,
    )

    bound_once : cells t.nexts x ≢ x → (times x (members ls) ≡ 1) × (times x free ≡ 0)
    bound_once d = (
      listed_bound (leveled t) s.buckets ls p.lists_sound.1 x in_lists d,
      free_used t.arena s.free free p.arena_sound.1 x (agreed.bound d).used,
    )

    once : times x (members ls) + times x free ≡ 1
    once =
        by_eq (cells t.nexts x) x
        (λ e. let o = free_once e in let a = o.0 in let c = o.1 in omega arith)
        (λ d. let o = bound_once d in let a = o.0 in let c = o.1 in omega arith)

    -- a slot in the lists is bound in every table; one in the free order is free in every table
    listed_on : 1 ≤ times x (members ls) → On t.keys t.arena t.index x
    listed_on m = by_eq (cells t.nexts x) x (λ e. let z = (free_once e).0 in absurd (omega arith)) (λ d. agreed.bound d)

    free_off : 1 ≤ times x free → Off t.keys t.epochs t.arena t.index x
    free_off m = by_eq (cells t.nexts x) x (λ e. agreed.free e) (λ d. let z = (bound_once d).1 in absurd (omega arith))

    has_listed : index.Has t.index t.keys x → 1 ≤ times x (members ls)
    has_listed g = by_eq (cells t.nexts x) x (λ e. absurd ((agreed.free e).out g)) (λ d. let z = (bound_once d).0 in omega arith)

  -- and no other number on either
  module _ (x : ℕ) (b : s.capacity ≤ x) where
    not_listed : times x (members ls) ≡ 0
    not_listed = listed_past (leveled t) s.buckets ls p.lists_sound.1 x (let f = fit.sized.freqs_size in omega arith)

    not_free : times x free ≡ 0
    not_free = free_past t.arena s.free free p.arena_sound.1 x (let a = fit.sized.arena_size in omega arith)

  listed_below : (x : ℕ) → 1 ≤ times x (members ls) → x < s.capacity
  listed_below x m = by_lt x s.capacity (λ b. b) (λ b. let z = not_listed x b in absurd (omega arith))

  free_below : (x : ℕ) → 1 ≤ times x free → x < s.capacity
  free_below x m = by_lt x s.capacity (λ b. b) (λ b. let z = not_free x b in absurd (omega arith))

  -- The ledger is well formed

  members_on : All (index.Has t.index t.keys) (members ls)
  members_on =
      all_of (index.Has t.index t.keys) (members ls)
      (λ x i. let m = in_times x (members ls) i in (listed_on x (listed_below x m) m).indexed)

  formed : WellFormed l
  formed = record {
    rising = rising_at t.keys t.epochs 0 ls (held_rising (leveled t) s.buckets ls p.lists_sound.1);
    keys = λ j.
        let e = keyed_members t.keys t.epochs j ls in
        let o = key_once t.index t.keys p.index_sound j (members ls) (held_distinct (leveled t) s.buckets ls p.lists_sound.1) members_on in
        omega arith;
    slots = λ x.
        let e = slotted_members t.keys t.epochs x ls in
        by_lt x s.capacity
        (λ b. let y = below_yes x s.capacity b in let o = once x b in omega arith)
        (λ b. let y = below_not x s.capacity b in let o = not_listed x b in let g = not_free x b in omega arith);
  }

  indexed : (x : ℕ) → index.Has t.index t.keys x ↔ BoundSlot l x
  indexed x =
      let e = slotted_members t.keys t.epochs x ls in (
        λ g. let m = has_listed x (let a = g.0 in let k = fit.sized.keys_size in omega arith) g in omega arith,
        λ b. let m : 1 ≤ times x (members ls) = omega arith in (listed_on x (listed_below x m) m).indexed,
      )

  pub built : Holds t s l
  built = record {
    formed = formed;
    limit = fit.limit;
    capacity = refl;
    sized = fit.sized;
    count = p.count ∙ sym (bound_used t.arena s.free l formed p.arena_sound.1 fit.sized.arena_size);
    lowest = p.lowest ∙ lowest_levels t.keys t.epochs ls;
    epoch = refl;
    slots = ls;
    lists = p.lists_sound.1;
    entries = refl;
    free = p.arena_sound.1;
    zeros = all_of (Blank t.keys t.epochs) free (λ x i. let m = in_times x free i in (free_off x (free_below x m) m).blank);
    index_sound = p.index_sound;
    indexed = indexed;
  }
