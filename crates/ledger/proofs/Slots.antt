-- The slots of a well-formed ledger, by counting: a bound slot is below the capacity and not free, a free one is not bound, no
-- two bound keys share a slot, and bound and free slots make up the capacity. The last sums the counts of all slots both ways.
use mathlib.Core.Path.{◌≡◌, refl, sym, ap, ◌∙◌}
use mathlib.Core.Bool.{cond}
use mathlib.Core.List.{List, ◌∷◌}
use Prim.Native.Nat.{ℕ, zero, suc, ◌+◌, ◌≤◌, ◌<◌}
use native.Mathlib.Omega.{arith}
use native.Mathlib.Decide.{ℕ_discrete}
use lib.Dec.{ltb}
use lib.ListN.{length}
use Rattle.lists.specs.Lists.{In, from, one, times}
use Rattle.lists.proofs.Tests.{if_eq, if_lt, if_less, if_not_less, one_same}
use Rattle.lists.proofs.Members.{in_sum, in_all}
use Rattle.lists.proofs.Totals.{total_same, total_add, total_ones, length_by, length_total}
use Rattle.ledger.specs.Ledger.{Ledger, Item, items, size, slotted, WellFormed}
use Rattle.ledger.proofs.Items.{cut, sum_cut_in, in_cut}

-- 1 below m, else 0: how often a slot stands

abbrev pub below : ℕ → ℕ → ℕ
below s m = cond (ltb s m) 1 0

pub below_yes : (s m : ℕ) → s < m → below s m ≡ 1
below_yes s m h = if_less s m 1 0 h

pub below_not : (s m : ℕ) → m ≤ s → below s m ≡ 0
below_not s m h = if_not_less s m 1 0 h

pub below_le : (s m : ℕ) → below s m ≤ 1
below_le s m = if_lt (λ z. z ≤ 1) s m (λ h. omega arith) (λ h. omega arith)

below_suc : (s a : ℕ) → one a s + below s a ≡ below s (a + 1)
below_suc s a =
    if_eq (λ z. z + below s a ≡ below s (a + 1)) a s
    (λ e. let p = below_not s a (omega arith) in let q = below_yes s (a + 1) (omega arith) in omega arith)
    (λ d.
    if_lt (λ z. 0 + z ≡ below s (a + 1)) s a
    (λ h. let q = below_yes s (a + 1) (omega arith) in omega arith)
    (λ h. let q = below_not s (a + 1) (omega arith) in omega arith))

-- a run of numbers has each of them once
pub times_from : (s a n : ℕ) → times s (from a n) + below s a ≡ below s (a + n)
times_from s a zero = let t : a ≡ a + 0 = omega arith in let q = ap (below s) t in omega arith
times_from s a (suc n) =
    let ih = times_from s (a + 1) n in
    let h = below_suc s a in
    let t : a + 1 + n ≡ a + suc n = omega arith in
    let q = ap (below s) t in
    omega arith

module _ (l : Ledger) (w : WellFormed l) where
  pub bound_slot : (x : Item) → In x (items l.levels) → (x.slot < l.capacity) × (times x.slot l.free ≡ 0)
  bound_slot x i =
      let a = in_sum (λ z. one z.slot x.slot) (items l.levels) x i in
      let b = one_same x.slot x.slot refl in
      if_lt (λ z. slotted x.slot (items l.levels) + times x.slot l.free ≡ z → (x.slot < l.capacity) × (times x.slot l.free ≡ 0))
      x.slot l.capacity
      (λ h c. (h, omega arith)) (λ h c. absurd (omega arith)) (w.slots x.slot)

  -- the first free slot, and it stands once
  pub free_slot : (s : ℕ) (rest : List ℕ) → l.free ≡ s ∷ rest → (s < l.capacity) × (times s rest ≡ 0)
  free_slot s rest e =
      let a = ap (times s) e in
      let b = one_same s s refl in
      if_lt (λ z. slotted s (items l.levels) + times s l.free ≡ z → (s < l.capacity) × (times s rest ≡ 0)) s l.capacity
      (λ h c. (h, omega arith)) (λ h c. absurd (omega arith)) (w.slots s)

  -- No two bound keys share a slot.
  pub no_twins : (x y : Item) → In x (items l.levels) → In y (items l.levels) → x.slot ≡ y.slot → x.key ≡ y.key
  no_twins x y i j e = elim (ℕ_discrete y.key x.key) [
    | yes q ↦ sym q
    | no d ↦
        let xs = items l.levels in
        let a = sum_cut_in (λ z. one z.slot x.slot) xs x i (w.keys x.key) in
        let b = in_sum (λ z. one z.slot x.slot) (cut x.key xs) y (in_cut x.key xs y j d) in
        let c = w.slots x.slot in
        let f = below_le x.slot l.capacity in
        absurd (omega (arith, one_same x.slot x.slot refl, one_same y.slot x.slot (sym e)))
  ]

pub size_and_free : (l : Ledger) → WellFormed l → size l + length l.free ≡ l.capacity
size_and_free l w =
    let all : ℕ → ℕ = λ s. slotted s (items l.levels) + times s l.free in
    let a = length_by (λ (x : Item). x.slot) l.capacity (items l.levels) (in_all (λ (x : Item). x.slot < l.capacity) (items l.levels) (λ x i. (bound_slot l w x i).0)) in
    let b = length_total l.capacity l.free (in_all (λ y. y < l.capacity) l.free
    (λ y i.
    let o = in_sum (λ t. one t y) l.free y i in
    let u = one_same y y refl in
    if_lt (λ z. slotted y (items l.levels) + times y l.free ≡ z → y < l.capacity) y l.capacity
    (λ h e. h) (λ h e. absurd (omega arith)) (w.slots y))) in
    let d = total_add (λ s. slotted s (items l.levels)) (λ s. times s l.free) l.capacity in
    let e = total_same all (λ s. 1) l.capacity (λ s h. w.slots s ∙ below_yes s l.capacity h) in
    let f = total_ones l.capacity in
    omega arith
