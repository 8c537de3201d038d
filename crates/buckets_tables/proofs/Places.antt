-- Where a bound slot stands in the lists, and what the ledger's changes are there: the key that is found at the slot, the lists after
-- it is let go, after a hit and after a restart. Carried by the ledger's laws on a known place, since slot and key stand once.
use Rattle.std.proofs.Common.{◌≡◌, ℕ, ◌+◌, ◌<◌, ◌≤◌, ◌≢◌, List, [], ◌∷◌, ◌++◌, sym, refl, ap, ◌∙◌, arith}
use mathlib.Core.Option.{some}
use native.Mathlib.Decide.{ℕ_discrete}
use Rattle.numbers.specs.Frequency.{FIRST, raised}
use Rattle.lists.specs.Lists.{In, Without, one, times}
use Rattle.lists.proofs.Tests.{one_same}
use Rattle.lists.proofs.Members.{all_append, all_left, in_split, sum_append, times_in, times_without}
use Rattle.ledger.specs.Ledger.{Entry, Level, Ledger, Item, item, items, lookup, level, link, unlink, NonEmpty, Rising, slotted}
use Rattle.ledger.proofs.Items.{in_found}
use Rattle.ledger.proofs.Rising.{rising_unlink}
use Rattle.ledger.proofs.Slots.{below_le, no_twins}
use Rattle.ledger.proofs.Split.{level_of, Below, joined, link_from, hit_at, hit_at_lem, unlink_at, rising_full, rising_above, rising_split, in_items, Alone, alone}
use Rattle.links.specs.Chain.{cells}
use Rattle.levels.specs.Levels as levels
use Rattle.levels.specs.Levels.{members, Nowhere, keep, join, touched}
use Rattle.buckets_tables.specs.declared.State.{State}
use Rattle.buckets_tables.specs.Tables.{Tables}
use Rattle.buckets_tables.specs.Holds.{entry_at, entries_at, levels_at, BoundSlot, Holds}
use Rattle.buckets_tables.proofs.Entries.{SameCells, entries_append, levels_append, levels_at_lem, levels_keep, levels_join, levels_touched, slotted_members, entries_away, levels_away}

-- the place of slot x in lists
pub record Place (ls : List levels.Level) (x : ℕ) : Type 0 where
  pub us : List levels.Level
  pub freq : ℕ
  pub xs : List ℕ
  pub ys : List ℕ
  pub vs : List levels.Level
  pub is : ls ≡ us ++ levels.level freq (xs ++ x ∷ ys) ∷ vs

pub place : (ls : List levels.Level) (x : ℕ) → 1 ≤ times x (members ls) → Place ls x
place [] x h = absurd (omega arith)
place (l ∷ ls) x h = go (ℕ_discrete (times x l.slots) 0) (λ c. place ls x c)
  where
    go : Dec (times x l.slots ≡ 0) → (1 ≤ times x (members ls) → Place ls x) → Place (l ∷ ls) x
    go (yes z) rest =
        let a = sum_append (λ y. one y x) l.slots (members ls) in
        let p = rest (omega arith) in
        record { us = l ∷ p.us; freq = p.freq; xs = p.xs; ys = p.ys; vs = p.vs; is = λ i. l ∷ p.is i }
    go (no d) rest =
        let p = in_split x l.slots (times_in x l.slots (omega arith)) in
        record { us = []; freq = l.freq; xs = p.before; ys = p.after; vs = ls; is = λ i. levels.level l.freq (p.is i) ∷ ls }

-- a slot that stands nowhere, by counting
pub nowhere : (x : ℕ) (ls : List levels.Level) → times x (members ls) ≡ 0 → Nowhere x ls
nowhere x [] h = tt
nowhere x (l ∷ ls) h =
    let a = sum_append (λ y. one y x) l.slots (members ls) in (times_without x l.slots (omega arith), nowhere x ls (omega arith))

members_append : (us vs : List levels.Level) (x : ℕ) → times x (members (us ++ vs)) ≡ times x (members us) + times x (members vs)
members_append [] vs x = omega arith
members_append (u ∷ us) vs x =
    let ih = members_append us vs x in
    let a = sum_append (λ y. one y x) u.slots (members us) in
    let b = sum_append (λ y. one y x) u.slots (members (us ++ vs)) in
    omega arith

module _ (t : Tables) (s : State) (l : Ledger) (h : Holds t s l) where
  -- a slot that is bound has a place; one that is not stands nowhere
  pub times_bound : (x : ℕ) → times x (members h.slots) ≡ slotted x (items l.levels)
  times_bound x = sym (ap (λ ls. slotted x (items ls)) h.entries ∙ slotted_members t.keys t.epochs x h.slots)

  pub bound_place : (x : ℕ) → BoundSlot l x → Place h.slots x
  bound_place x b = place h.slots x (let e = times_bound x in omega arith)

  pub unbound_nowhere : (x : ℕ) → (BoundSlot l x → ⊥) → Nowhere x h.slots
  unbound_nowhere x b = nowhere x h.slots (go (ℕ_discrete (times x (members h.slots)) 0))
    where
      go : Dec (times x (members h.slots) ≡ 0) → times x (members h.slots) ≡ 0
      go (yes z) = z
      go (no d) = absurd (b (let e = times_bound x in omega arith))

  module _ (x : ℕ) (p : Place h.slots x) where
    -- what the tables have at the slot and around it, as the ledger's entries
    abbrev own : Entry
    own = entry_at t.keys t.epochs x

    abbrev lower : List Level
    lower = levels_at t.keys t.epochs p.us

    abbrev before : List Entry
    before = entries_at t.keys t.epochs p.xs

    abbrev behind : List Entry
    behind = entries_at t.keys t.epochs p.ys

    abbrev rest : List Entry
    rest = entries_at t.keys t.epochs (p.xs ++ p.ys)

    abbrev upper : List Level
    upper = levels_at t.keys t.epochs p.vs

    abbrev whole : List Level
    whole = lower ++ level_of p.freq (before ++ own ∷ behind) ∷ upper

    -- the item at the slot
    abbrev pub there : Item
    there = item p.freq own

    levels_there : l.levels ≡ whole
    levels_there =
        h.entries ∙ ap (levels_at t.keys t.epochs) p.is ∙ levels_at_lem t.keys t.epochs p.us p.freq p.xs x p.ys p.vs

    pub in_there : In there (items l.levels)
    in_there = rw levels_there (in_items lower p.freq before own behind upper)

    -- the key of the slot is found there
    pub found_there : lookup (cells t.keys x) l ≡ some there
    found_there = in_found (items l.levels) there in_there (h.formed.keys (cells t.keys x))

    -- it is the one item in the slot
    pub only_there : (y : Item) → In y (items l.levels) → y.slot ≡ x → y ≡ there
    only_there y i q =
        let k : y.key ≡ there.key = no_twins l h.formed y there i in_there q in
        let f : lookup y.key l ≡ some y = in_found (items l.levels) y i (h.formed.keys y.key) in
        let g : some y ≡ some there = sym f ∙ ap (λ (j : ℕ). lookup j l) k ∙ found_there in
        cc

    -- the slot stands nowhere else
    others : (times x (members p.us) ≡ 0) × (times x p.xs ≡ 0) × (times x p.ys ≡ 0) × (times x (members p.vs) ≡ 0)
    others =
        let a = ap (λ ls. times x (members ls)) p.is in
        let b = members_append p.us (levels.level p.freq (p.xs ++ x ∷ p.ys) ∷ p.vs) x in
        let c = sum_append (λ y. one y x) (p.xs ++ x ∷ p.ys) (members p.vs) in
        let d = sum_append (λ y. one y x) p.xs (x ∷ p.ys) in
        let o = one_same x x refl in
        let f = times_bound x in
        let g = h.formed.slots x in
        let m = below_le x l.capacity in
        (omega arith, omega arith, omega arith, omega arith)

    pub apart_zs : Without x (p.xs ++ p.ys)
    apart_zs = all_append (λ y. y ≢ x) p.xs p.ys (times_without x p.xs others.1) (times_without x p.ys others.2)

    alone_there : Alone (cells t.keys x) lower before behind upper
    alone_there =
        alone (cells t.keys x) lower p.freq before own behind upper refl
        (rw levels_there at (h.formed.keys (cells t.keys x)))

    rising_whole : Rising 0 whole
    rising_whole = rw levels_there at h.formed.rising

    rising_there : (0 < p.freq) × Below p.freq lower × Rising p.freq upper
    rising_there = rising_split 0 lower (level_of p.freq (before ++ own ∷ behind)) upper rising_whole

    -- the lists without the key
    unlinked : unlink (cells t.keys x) l.levels
        ≡ lower ++ level p.freq rest upper
    unlinked =
        ap (unlink (cells t.keys x)) levels_there
        ∙ unlink_at (cells t.keys x) lower p.freq before own behind upper refl
        (all_left (λ (m : Level). NonEmpty m.entries) lower (level_of p.freq (before ++ own ∷ behind) ∷ upper) (rising_full 0 whole rising_whole))
        (rising_full p.freq upper rising_there.2)
        alone_there.in_us alone_there.in_xs alone_there.in_ys alone_there.in_vs
        ∙ ap (λ es. lower ++ level p.freq es upper) (sym (entries_append t.keys t.epochs p.xs p.ys))

    module _ (k' e' : List ℕ) (away : (y : ℕ) → y ≢ x → SameCells t.keys t.epochs k' e' y) where
      -- what the tables hold after the slot has left the lists, after a restart, and after a hit
      pub released_lists : levels_at k' e' (p.us ++ keep p.freq (p.xs ++ p.ys) p.vs) ≡ unlink (cells t.keys x) l.levels
      released_lists =
          levels_append k' e' p.us (keep p.freq (p.xs ++ p.ys) p.vs)
          ∙ ap (λ ls. levels_at k' e' p.us ++ ls) (levels_keep k' e' p.freq (p.xs ++ p.ys) p.vs)
          ∙ (λ i.
          levels_away t.keys t.epochs k' e' x away p.us (nowhere x p.us others.0) i
          ++ level p.freq (entries_away t.keys t.epochs k' e' x away (p.xs ++ p.ys) apart_zs i)
          (levels_away t.keys t.epochs k' e' x away p.vs (nowhere x p.vs others.3) i))
          ∙ sym unlinked

      pub restart_lists :
          levels_at k' e' (join x FIRST (p.us ++ keep p.freq (p.xs ++ p.ys) p.vs))
          ≡ link FIRST (entry_at k' e' x) (unlink (cells t.keys x) l.levels)
      restart_lists =
          let left = unlink (cells t.keys x) l.levels in
          levels_join k' e' x FIRST (p.us ++ keep p.freq (p.xs ++ p.ys) p.vs)
          ∙ ap (joined FIRST (entry_at k' e' x)) released_lists
          ∙ sym (link_from FIRST (entry_at k' e' x) left (rising_above 0 left (rising_unlink (cells t.keys x) 0 l.levels h.formed.rising)))

      pub hit_lists : (cap : ℕ) →
          levels_at k' e' (p.us ++ touched cap x p.freq (p.xs ++ p.ys) p.vs)
          ≡ link (raised cap p.freq) (entry_at k' e' x) (unlink (cells t.keys x) l.levels)
      hit_lists cap =
          levels_append k' e' p.us (touched cap x p.freq (p.xs ++ p.ys) p.vs)
          ∙ ap (λ ls. levels_at k' e' p.us ++ ls) (levels_touched k' e' cap x p.freq (p.xs ++ p.ys) p.vs)
          ∙ (λ i.
          levels_away t.keys t.epochs k' e' x away p.us (nowhere x p.us others.0) i
          ++ hit_at cap (entry_at k' e' x) p.freq (entries_away t.keys t.epochs k' e' x away (p.xs ++ p.ys) apart_zs i)
          (levels_away t.keys t.epochs k' e' x away p.vs (nowhere x p.vs others.3) i))
          ∙ sym (hit_at_lem cap (entry_at k' e' x) lower p.freq rest upper rising_there.1 (rising_above p.freq upper rising_there.2))
          ∙ ap (link (raised cap p.freq) (entry_at k' e' x)) (sym unlinked)
