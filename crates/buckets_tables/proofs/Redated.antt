-- What the tables hold after an epoch is set: that of one entry, or the current one. A slot is the only one with its key, so a store
-- into its cell of the epochs is the ledger's change; nothing else depends on epochs.
use Rattle.std.proofs.Common.{Some, None, ◌≡◌, ℕ, ◌<◌, cond, eqb, List, [], ◌∷◌, length, set, sym, refl, ap, ◌∙◌, subst, inl, inr, arith, length-set, get_or-set_other, get_or-set_same}
use mathlib.Core.Option.{some}
use Rattle.numbers.specs.declared.Refusal.TheVariants.{Absent}
use Rattle.numbers.specs.declared.Slot.{Slot}
use Rattle.lists.specs.Lists.{In, one, times}
use Rattle.lists.proofs.Tests.{if_eq}
use Rattle.lists.proofs.Members.{in_left, in_right, in_times, times_without}
use Rattle.ledger.specs.Ledger.{Entry, Level, Ledger, lookup}
use Rattle.ledger.specs.Buckets.{done, refused, dated, redated, set_entry_epoch, at_epoch, set_epoch, advance_epoch}
use Rattle.ledger.proofs.Slots.{bound_slot, size_and_free}
use Rattle.ledger.proofs.Split.{level_of}
use Rattle.ledger.proofs.Changes.{sum_redated, redated_formed, epoch_formed}
use Rattle.promise.specs.Promise.{Does}
use Rattle.links.specs.Chain.{cells}
use Rattle.key_index.specs.Index as index
use Rattle.levels.specs.Levels as levels
use Rattle.levels.specs.Levels.{members}
use Rattle.buckets_tables.specs.declared.State.{State}
use Rattle.buckets_tables.specs.Tables.{Tables, tables}
use Rattle.buckets_tables.specs.Holds.{entry_at, entries_at, levels_at, lowest_of, BoundSlot, Holds}
use Rattle.buckets_tables.specs.Calls as calls
use Rattle.buckets_tables.specs.Calls.{next_epoch}
use Rattle.buckets_tables.proofs.Entries.{still_blank}
use Rattle.buckets_tables.proofs.Places.{times_bound, bound_place, found_there}
use Rattle.buckets_tables.proofs.Found.{found_at, found_nothing}
use Rattle.buckets_tables.proofs.Doing.{does_refuse, does_done}
use Rattle.buckets_tables.specs.Lent.{buckets}

-- The epoch of one entry

-- x is the slot of a key; a list in which no other slot has that key is redated by a store at x
module _ (k e : List ℕ) (x n : ℕ) (below : x < length e) where
  abbrev Own : List ℕ → Type 0
  Own xs = (y : ℕ) → In y xs → cells k y ≡ cells k x → y ≡ x

  entry_redated : (y : ℕ) → (cells k y ≡ cells k x → y ≡ x) →
      entry_at k (set e x n) y ≡ cond (eqb (cells k y) (cells k x)) (record { key = cells k x; slot = y; epoch = n }) (entry_at k e y)
  entry_redated y own =
      if_eq (λ (d : Entry). entry_at k (set e x n) y ≡ d) (cells k y) (cells k x)
      (λ q. let same = ap (cells (set e x n)) (own q) ∙ get_or-set_same e x n 0 below in λ i. record { key = q i; slot = y; epoch = same i })
      (λ d. let same = get_or-set_other e x y n 0 (λ q. d (ap (cells k) q)) in λ i. record { key = cells k y; slot = y; epoch = same i })

  entries_redated : (xs : List ℕ) → Own xs → entries_at k (set e x n) xs ≡ dated (cells k x) n (entries_at k e xs)
  entries_redated [] own = refl
  entries_redated (y ∷ xs) own = λ i. entry_redated y (own y (inl refl)) i ∷ entries_redated xs (λ z w. own z (inr w)) i

  levels_redated : (ls : List levels.Level) → Own (members ls) → levels_at k (set e x n) ls ≡ redated (cells k x) n (levels_at k e ls)
  levels_redated [] own = refl
  levels_redated (l ∷ ls) own =
      λ i. level_of l.freq (entries_redated l.slots (λ y w. own y (in_left y l.slots (members ls) w)) i)
      ∷ levels_redated ls (λ y w. own y (in_right y l.slots (members ls) w)) i

lowest_redated : (k n : ℕ) (ls : List Level) → lowest_of (redated k n ls) ≡ lowest_of ls
lowest_redated k n [] = refl
lowest_redated k n (l ∷ ls) = refl

module _ (t : Tables) (s : State) (l : Ledger) (h : Holds t s l) (x : Slot) (key : ℕ) (at_x : index.Finds t.index t.keys key (Some x)) where
  -- two bound slots with one key are one
  own_key : (y : ℕ) → In y (members h.slots) → cells t.keys y ≡ cells t.keys x.0 → y ≡ x.0
  own_key y w q =
      let b : BoundSlot l y = (let a = in_times y (members h.slots) w in let c = times_bound t s l h y in omega arith) in
      let mine = found_there t s l h y (bound_place t s l h y b) in
      let bound = found_at t s l h key x at_x in
      let same : some bound.item_is ≡ some _ = sym bound.found ∙ ap (λ (j : ℕ). lookup j l) (sym (q ∙ at_x.1)) ∙ mine in
      cc

  abbrev after : ℕ → Ledger
  after n = record { capacity = l.capacity; epoch = l.epoch; levels = redated key n l.levels; free = l.free }

  redated_holds : (n : ℕ) (e' : List ℕ) → e' ≡ set t.epochs x.0 n →
      Holds (tables t.keys t.freqs e' t.prevs t.nexts t.arena t.index t.buckets t.spares) s (after n)
  redated_holds n e' is =
      let formed = redated_formed l h.formed key n in
      let bound = found_at t s l h key x at_x in
      let below = bound.there_is.below in
      let out = (bound_slot l h.formed bound.item_is bound.there_is.inside).1 in
      record {
        formed = formed;
        limit = h.limit;
        capacity = h.capacity;
        sized = record {
          keys_size = h.sized.keys_size;
          freqs_size = h.sized.freqs_size;
          epochs_size = rw is (simp length-set h.sized.epochs_size);
          prevs_size = h.sized.prevs_size;
          nexts_size = h.sized.nexts_size;
          arena_size = h.sized.arena_size;
          index_size = h.sized.index_size;
          buckets_size = h.sized.buckets_size;
          spares_size = h.sized.spares_size;
        };
        count =
            let a = size_and_free l h.formed in
            let b = size_and_free (after n) formed in
            let d = h.count in
            omega arith;
        lowest = h.lowest ∙ sym (lowest_redated key n l.levels);
        epoch = h.epoch;
        slots = h.slots;
        lists = h.lists;
        entries =
            ap (redated key n) h.entries
            ∙ ap (λ (j : ℕ). redated j n (levels_at t.keys t.epochs h.slots)) (sym at_x.1)
            ∙ sym (levels_redated t.keys t.epochs x.0 n (let a = h.sized.epochs_size in omega arith) h.slots own_key)
            ∙ ap (λ es. levels_at t.keys es h.slots) (sym is);
        free = h.free;
        zeros =
            still_blank t.keys t.epochs t.keys e' x.0 (λ y d. (refl, rw is (get_or-set_other t.epochs x.0 y n 0 d))) l.free
            (times_without x.0 l.free (ap (λ (m : ℕ). times m l.free) (sym bound.there_is.slot) ∙ out)) h.zeros;
        index_sound = h.index_sound;
        indexed = λ y.
            let a = sum_redated (λ j z. one z y) key n l.levels in
            let b = h.indexed y in
            (λ has. let c = b.0 has in omega arith, λ w. b.1 (omega arith));
      }

-- `set_entry_epoch`

pub redate_absent : (t : Tables) (s : State) (key n : ℕ) → index.Finds t.index t.keys key None → Does buckets (set_entry_epoch key n) t s (refused Absent) t s
unfolding set_entry_epoch
redate_absent t s key n f = does_refuse (set_entry_epoch key n) t s Absent (λ l h. rw (found_nothing t s l h key f))

pub redate_done : (k f e p n a i b sp : List ℕ) (s : State) (key epoch : ℕ) (x : Slot) → index.Finds i k key (Some x) → (e' : List ℕ) → e' ≡ set e x.0 epoch →
    Does buckets (set_entry_epoch key epoch) (tables k f e p n a i b sp) s (done []) (tables k f e' p n a i b sp) s
unfolding set_entry_epoch
redate_done k f e p n a i b sp s key epoch x at_x e' is =
    let t = tables k f e p n a i b sp in
    let t' = tables k f e' p n a i b sp in
    does_done (set_entry_epoch key epoch) t s [] t' s
    (λ l h. rw (found_at t s l h key x at_x).found)
    (λ l h. rw (found_at t s l h key x at_x).found (redated_holds t s l h x key at_x epoch e' is))

-- The current epoch

-- a state at another epoch, whatever the tables
at_epoch_lem : (t : Tables) (s : State) (l : Ledger) (n : ℕ) → Holds t s l → Holds t (calls.dated s n) (at_epoch n l)
at_epoch_lem t s l n h = record {
  formed = epoch_formed l h.formed n;
  limit = h.limit;
  capacity = h.capacity;
  sized = h.sized;
  count = h.count;
  lowest = h.lowest;
  epoch = refl;
  slots = h.slots;
  lists = h.lists;
  entries = h.entries;
  free = h.free;
  zeros = h.zeros;
  index_sound = h.index_sound;
  indexed = h.indexed;
}

pub epoch_set : (t : Tables) (s : State) (n : ℕ) (s' : State) → s' ≡ calls.dated s n → Does buckets (set_epoch n) t s (done []) t s'
unfolding set_epoch
epoch_set t s n s' is = does_done (set_epoch n) t s [] t s' (λ l h. refl) (λ l h. rw is (at_epoch_lem t s l n h))

pub epoch_advanced : (t : Tables) (s s' : State) → s' ≡ calls.dated s (next_epoch s.epoch) → Does buckets advance_epoch t s (done (s'.epoch ∷ [])) t s'
unfolding advance_epoch
epoch_advanced t s s' is =
    does_done advance_epoch t s (s'.epoch ∷ []) t s'
    (λ l h. rw is (ap (λ (m : ℕ). done (next_epoch m ∷ [])) h.epoch))
    (λ l h. rw is (subst (λ (m : ℕ). Holds t (calls.dated s (next_epoch s.epoch)) (at_epoch (next_epoch m) l)) h.epoch (at_epoch_lem t s l (next_epoch s.epoch) h)))
