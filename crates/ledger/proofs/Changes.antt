-- The changes that all calls are made of keep a ledger well formed: each field is a sum over the items that gains or loses one
-- item (Items.antt) and levels that still rise (Rising.antt).
use mathlib.Core.Path.{◌≡◌, refl, sym, ap, ◌∙◌}
use mathlib.Core.Bool.{cond}
use mathlib.Core.List.{List, [], ◌∷◌}
use Prim.Native.Nat.{ℕ, ◌+◌, ◌≤◌}
use native.Mathlib.Omega.{arith}
use lib.Dec.{eqb}
use Rattle.numbers.specs.Frequency.{FIRST, CEILING, raised}
use Rattle.lists.specs.Lists.{In, sum, one, times}
use Rattle.lists.proofs.Tests.{if_eq, if_lt}
use Rattle.lists.proofs.Members.{all_in, sum_append}
use Rattle.ledger.specs.Ledger.{Entry, Level, Ledger, Item, new, item, tag, items, unlink, put, release, move, restart, NonEmpty, Rising, keyed, WellFormed}
use Rattle.ledger.specs.Buckets.{dated, redated, at_epoch}
use Rattle.ledger.proofs.Items.{place, cut, items_unlink, items_link, sum_place, sum_cut_in, keyed_cut_same, keyed_cut_le}
use Rattle.ledger.proofs.Rising.{rising_unlink, rising_link, Within, all_within}
use Rattle.ledger.proofs.Slots.{below, below_not, times_from}

pub new_formed : (c : ℕ) → WellFormed (new c)
new_formed c = record {
  rising = tt;
  keys = λ k. omega arith;
  slots = λ s.
      let p = times_from s 0 c in
      let z = below_not s 0 (omega arith) in
      let t : 0 + c ≡ c = omega arith in
      let q = ap (below s) t in
      omega arith;
}

-- a key that is let go is unbound, and stays so
pub fresh_again : (x : Item) (l : Ledger) → keyed x.key (items (release x l).levels) ≡ 0
fresh_again x l = rw (items_unlink x.key l.levels) (keyed_cut_same x.key (items l.levels))

pub fresh_after : (k : ℕ) (x : Item) (l : Ledger) → keyed k (items l.levels) ≡ 0 → keyed k (items (release x l).levels) ≡ 0
fresh_after k x l h = rw (items_unlink x.key l.levels) (omega (arith, keyed_cut_le k x.key (items l.levels)))

-- the items after a move
pub items_move : (x : Item) (f : ℕ) (l : Ledger) → Rising 0 l.levels →
    items (move x f l).levels ≡ place (item f (record { key = x.key; slot = x.slot; epoch = l.epoch })) (cut x.key (items l.levels))
items_move x f l r =
    let e : Entry = record { key = x.key; slot = x.slot; epoch = l.epoch } in
    items_link f e 0 (unlink x.key l.levels) (rising_unlink x.key 0 l.levels r)
    ∙ ap (place (item f e)) (items_unlink x.key l.levels)

module _ (l : Ledger) (w : WellFormed l) where
  pub put_formed : (k s : ℕ) (rest : List ℕ) → keyed k (items l.levels) ≡ 0 → l.free ≡ s ∷ rest → WellFormed (put k s rest l)
  put_formed k s rest h e =
      let x : Entry = record { key = k; slot = s; epoch = l.epoch } in
      let p = items_link FIRST x 0 l.levels w.rising in
      record {
        rising = rising_link FIRST x 0 l.levels (omega arith) (omega arith) w.rising;
        keys = λ j. rw p (
            let a = sum_place (λ y. one y.key j) (item FIRST x) (items l.levels) in
            let b : one k j + keyed j (items l.levels) ≤ 1 = if_eq (λ z. z + keyed j (items l.levels) ≤ 1) k j
            (λ q. let z = ap (λ (m : ℕ). keyed m (items l.levels)) q in omega arith) (λ d. omega (arith, w.keys j)) in
            omega arith);
        slots = λ t. rw p (
            let a = sum_place (λ y. one y.slot t) (item FIRST x) (items l.levels) in
            let b = ap (times t) e in
            let c = w.slots t in
            omega arith);
      }

  pub release_formed : (x : Item) → In x (items l.levels) → WellFormed (release x l)
  release_formed x i = record {
    rising = rising_unlink x.key 0 l.levels w.rising;
    keys = λ j.
        rw (items_unlink x.key l.levels) (let a = keyed_cut_le j x.key (items l.levels) in omega (arith, w.keys j));
    slots = λ t.
        rw (items_unlink x.key l.levels)
        (let a = sum_cut_in (λ y. one y.slot t) (items l.levels) x i (w.keys x.key) in
        let c = w.slots t in
        omega (arith, sum_append (λ s. one s t) l.free (x.slot ∷ [])));
  }

  pub move_formed : (x : Item) (f : ℕ) → In x (items l.levels) → 1 ≤ f → f ≤ CEILING → WellFormed (move x f l)
  move_formed x f i h c =
      let e : Entry = record { key = x.key; slot = x.slot; epoch = l.epoch } in
      let p = items_move x f l w.rising in
      let sums : (g : Item → ℕ) → sum g (place (item f e) (cut x.key (items l.levels))) + g x ≡ g (item f e) + sum g (items l.levels)
      = λ g.
      let a = sum_place g (item f e) (cut x.key (items l.levels)) in
      let b = sum_cut_in g (items l.levels) x i (w.keys x.key) in
      omega arith in
      record {
        rising = rising_link f e 0 (unlink x.key l.levels) h c (rising_unlink x.key 0 l.levels w.rising);
        keys = λ j. rw p (omega (arith, sums (λ y. one y.key j), w.keys j));
        slots = λ t. rw p (omega (arith, sums (λ y. one y.slot t), w.slots t));
      }

  pub restart_formed : (x : Item) → In x (items l.levels) → WellFormed (restart x l)
  restart_formed x i = move_formed x FIRST i (omega arith) (omega arith)

  -- the level after a hit is a level
  pub raised_fits : (cap : ℕ) (x : Item) → In x (items l.levels) → cap ≤ CEILING → (1 ≤ raised cap x.frequency) × (raised cap x.frequency ≤ CEILING)
  raised_fits cap x i h =
      let b = all_in (Within 0) (items l.levels) x (all_within 0 l.levels w.rising) i in
      if_lt (λ z. (1 ≤ z) × (z ≤ CEILING)) x.frequency cap (λ q. (omega arith, omega arith)) (λ q. (b.0, b.1))

  pub epoch_formed : (n : ℕ) → WellFormed (at_epoch n l)
  epoch_formed n = record { rising = w.rising; keys = w.keys; slots = w.slots }

-- An epoch changed in its place: keys, slots and lists are as they were

dated_some : (k n : ℕ) (es : List Entry) → NonEmpty es → NonEmpty (dated k n es)
dated_some k n [] h = elim h [ ]
dated_some k n (e ∷ es) h = tt

-- a sum that reads no epoch
abbrev blind : (ℕ → ℕ → ℕ) → Item → ℕ
blind g x = g x.key x.slot

sum_dated : (g : ℕ → ℕ → ℕ) (k n f : ℕ) (es : List Entry) (xs ys : List Item) → sum (blind g) xs ≡ sum (blind g) ys →
    sum (blind g) (tag f (dated k n es) xs) ≡ sum (blind g) (tag f es ys)
sum_dated g k n f [] xs ys h = h
sum_dated g k n f (e ∷ es) xs ys h =
    let ih = sum_dated g k n f es xs ys h in
    let new-e : Entry = cond (eqb e.key k) (record { key = k; slot = e.slot; epoch = n }) e in
    let p : g new-e.key new-e.slot ≡ g e.key e.slot
    = if_eq (λ (z : Entry). g z.key z.slot ≡ g e.key e.slot) e.key k (λ s. ap (λ (m : ℕ). g m e.slot) (sym s)) (λ d. refl) in
    omega arith

pub sum_redated : (g : ℕ → ℕ → ℕ) (k n : ℕ) (ls : List Level) → sum (blind g) (items (redated k n ls)) ≡ sum (blind g) (items ls)
sum_redated g k n [] = refl
sum_redated g k n (l ∷ ls) = sum_dated g k n l.frequency l.entries (items (redated k n ls)) (items ls) (sum_redated g k n ls)

rising_redated : (a k n : ℕ) (ls : List Level) → Rising a ls → Rising a (redated k n ls)
rising_redated a k n [] r = tt
rising_redated a k n (l ∷ ls) r =
    (r.0, r.1, dated_some k n l.entries r.2, rising_redated l.frequency k n ls r.3)

pub redated_formed : (l : Ledger) → WellFormed l → (k n : ℕ) →
    WellFormed (record { capacity = l.capacity; epoch = l.epoch; levels = redated k n l.levels; free = l.free })
redated_formed l w k n = record {
  rising = rising_redated 0 k n l.levels w.rising;
  keys = λ j. let p = sum_redated (λ a s. one a j) k n l.levels in omega (arith, w.keys j);
  slots = λ t. let p = sum_redated (λ a s. one s t) k n l.levels in omega (arith, w.slots t);
}
