-- What is found in the tables is what the ledger has: the slot of a key, the frequency of a slot, the tail of the lowest list. Carried
-- by the index having exactly the bound slots, and by the one item at a slot's place.
use Rattle.std.proofs.Common.{◌≡◌, ℕ, ◌<◌, ◌≢◌, ◌⊎◌, Some, None, List, [], ◌∷◌, ◌++◌, get_or, sym, refl, ap, ◌∙◌, subst, inl, inr, ⊎_elim, arith}
use mathlib.Core.Option.{Option, none, some}
use Rattle.numbers.specs.Marks.{NONE}
use Rattle.numbers.specs.declared.Slot.{Slot}
use Rattle.lists.specs.Lists.{All, In, final, one}
use Rattle.lists.proofs.Tests.{one_same}
use Rattle.lists.proofs.Members.{all_map, all_mid, in_sum}
use Rattle.lists.proofs.Maps.{all_images}
use Rattle.ledger.specs.Ledger.{Ledger, Item, item, items, lookup, tail, lowest, NonEmpty, Rising}
use Rattle.ledger.proofs.Items.{found_in}
use Rattle.ledger.proofs.Rising.{lowest_in}
use Rattle.ledger.proofs.Slots.{bound_slot}
use Rattle.links.specs.Chain.{cells}
use Rattle.bucket_table.specs.declared.Buckets.{Buckets}
use Rattle.key_index.specs.Index as index
use Rattle.levels.specs.Levels as levels
use Rattle.levels.specs.Held.{Line, Tabs, LineHeld, Held}
use Rattle.buckets_tables.specs.declared.State.{State}
use Rattle.buckets_tables.specs.Tables.{Tables, leveled}
use Rattle.buckets_tables.specs.Holds.{entry_at, entries_at, levels_at, lowest_of, BoundSlot, Holds}
use Rattle.buckets_tables.proofs.Places.{Place, bound_place, only_there, there, in_there, found_there}

-- each slot of a list has the list's frequency in its cell
frequencies : (t : Tabs) (b : Buckets) (ls : List levels.Level) → Held t b ls → All (λ (m : levels.Level). All (λ x. get_or t.freqs x 0 ≡ m.freq) m.slots) ls
frequencies t b ls h =
    rw h.seen at
    (all_images (λ (m : Line). levels.level m.row.freq m.slots) (λ (m : levels.Level). All (λ x. get_or t.freqs x 0 ≡ m.freq) m.slots) h.lines
    (all_map (LineHeld t.freqs t.prevs t.nexts t.buckets) (λ (m : Line). All (λ x. get_or t.freqs x 0 ≡ m.row.freq) m.slots)
    (λ m k. all_map (λ x. (get_or t.freqs x 0 ≡ m.row.freq) × _) (λ x. get_or t.freqs x 0 ≡ m.row.freq) (λ x o. o.0) m.slots k.own) h.lines h.rep.each))

module _ (t : Tables) (s : State) (l : Ledger) (h : Holds t s l) where
  -- the item in a slot, with what the tables say of it
  pub record Stands (y : Item) (x : ℕ) : Type 0 where
    pub inside : In y (items l.levels)
    pub slot : y.slot ≡ x
    pub key : cells t.keys x ≡ y.key
    pub frequency : cells t.freqs x ≡ y.frequency
    pub epoch : cells t.epochs x ≡ y.epoch
    pub below : x < l.capacity

  stands_there : (x : ℕ) (p : Place h.slots x) → Stands (there t s l h x p) x
  stands_there x p = record {
    inside = in_there t s l h x p;
    slot = refl;
    key = refl;
    frequency =
        (all_mid (λ z. get_or t.freqs z 0 ≡ p.freq) p.xs x p.ys
        (all_mid (λ (m : levels.Level). All (λ z. get_or t.freqs z 0 ≡ m.freq) m.slots) p.us (levels.level p.freq (p.xs ++ x ∷ p.ys)) p.vs
        (rw p.is at (frequencies (leveled t) s.buckets h.slots h.lists))).0).0;
    epoch = refl;
    below = (bound_slot l h.formed (there t s l h x p) (in_there t s l h x p)).0;
  }

  -- what stands in the slot of an item
  pub stands : (y : Item) → In y (items l.levels) → Stands y y.slot
  stands y i =
      let b : BoundSlot l y.slot = (let c = in_sum (λ (z : Item). one z.slot y.slot) (items l.levels) y i in omega (arith, one_same y.slot y.slot refl)) in
      let p = bound_place t s l h y.slot b in
      let e = only_there t s l h y.slot p y i refl in
      let d = stands_there y.slot p in
      record {
        inside = i;
        slot = refl;
        key = d.key ∙ ap (λ (z : Item). z.key) (sym e);
        frequency = d.frequency ∙ ap (λ (z : Item). z.frequency) (sym e);
        epoch = d.epoch ∙ ap (λ (z : Item). z.epoch) (sym e);
        below = d.below;
      }

  -- a key that is found in the index is bound in that slot; one that is not is absent
  pub record Bound (key x : ℕ) : Type 0 where
    pub item_is : Item
    pub found : lookup key l ≡ some item_is
    pub there_is : Stands item_is x

  pub found_at : (key : ℕ) (x : Slot) → index.Finds t.index t.keys key (Some x) → Bound key x.0
  found_at key x f =
      let p = bound_place t s l h x.0 ((h.indexed x.0).0 f.0) in
      record {
        item_is = there t s l h x.0 p;
        found = ap (λ (j : ℕ). lookup j l) (sym f.1) ∙ found_there t s l h x.0 p;
        there_is = stands_there x.0 p;
      }

  pub found_nothing : (key : ℕ) → index.Finds t.index t.keys key None → lookup key l ≡ none
  found_nothing key f = go (lookup key l) refl
    where
      go : (o : Option Item) → lookup key l ≡ o → o ≡ none
      go none e = refl
      go (some y) e =
          let q = found_in key (items l.levels) y e in
          let d = stands y q.0 in
          let c = in_sum (λ (z : Item). one z.slot y.slot) (items l.levels) y q.0 in
          absurd (f y.slot ((h.indexed y.slot).1 (omega (arith, one_same y.slot y.slot refl))) (d.key ∙ q.1))

  -- the tail of the lowest list

  tail_entry : (k e : List ℕ) (f : ℕ) (x : ℕ) (xs : List ℕ) → tail f (entries_at k e (x ∷ xs)) ≡ some (item f (entry_at k e (final x xs)))
  tail_entry k e f x [] = refl
  tail_entry k e f x (y ∷ xs) = tail_entry k e f y xs

  -- of a list that is not empty
  tail_of : (k e : List ℕ) (f : ℕ) (ss : List ℕ) → NonEmpty (entries_at k e ss) → (y : Item) × (tail f (entries_at k e ss) ≡ some y) × (y.slot ≡ final NONE ss) × (y.frequency ≡ f)
  tail_of k e f [] n = elim n [ ]
  tail_of k e f (x ∷ xs) n = (item f (entry_at k e (final x xs)), tail_entry k e f x xs, refl, refl)

  lowest_of_lem : (k e : List ℕ) (ls : List levels.Level) → Rising 0 (levels_at k e ls) →
      ((levels.lowest ls ≡ NONE) × (lowest (levels_at k e ls) ≡ none)) ⊎ ((y : Item) × (lowest (levels_at k e ls) ≡ some y) × (y.slot ≡ levels.lowest ls) × (y.frequency ≡ lowest_of (levels_at k e ls)))
  lowest_of_lem k e [] r = inl (refl, refl)
  lowest_of_lem k e (m ∷ ms) r = inr (tail_of k e m.freq m.slots r.2)

  abbrev low : ℕ
  low = levels.lowest h.slots

  -- the least item, where there is one
  pub record Least (y : Item) : Type 0 where
    pub is : lowest l.levels ≡ some y
    pub there_is : Stands y low
    pub lowest_is : s.lowest ≡ y.frequency

  lowest_cases : ((low ≡ NONE) × (lowest l.levels ≡ none)) ⊎ ((y : Item) × Least y)
  lowest_cases =
      ⊎_elim (λ n. inl (n.0, ap lowest h.entries ∙ n.1))
      (λ w.
      let e : lowest l.levels ≡ some w.0 = ap lowest h.entries ∙ w.1 in
      let d = stands w.0 (lowest_in l.levels w.0 e) in
      inr (w.0, record { is = e; there_is = subst (Stands w.0) w.2 d; lowest_is = h.lowest ∙ ap lowest_of h.entries ∙ sym w.3 }))
      (lowest_of_lem t.keys t.epochs h.slots (rw h.entries at h.formed.rising))

  pub lowest_nothing : low ≡ NONE → lowest l.levels ≡ none
  lowest_nothing e =
      ⊎_elim (λ n. n.1) (λ w. let b = w.1.there_is.below in let c = h.limit in absurd (omega arith)) lowest_cases

  pub lowest_some : low ≢ NONE → (y : Item) × Least y
  lowest_some d = ⊎_elim (λ n. absurd (d n.0)) (λ w. w) lowest_cases
