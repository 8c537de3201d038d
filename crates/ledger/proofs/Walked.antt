-- The walk of a frequency shows exactly that frequency's list, head first, and then "no more"; a step is ABSENT exactly from a slot
-- that is not bound. Carried by counting: a bound slot stands once among all items, so a step finds its own place in the list.
use mathlib.Core.Path.{◌≡◌, refl, sym, ap, ◌∙◌, subst}
use mathlib.Core.Logic.{◌⊎◌, inl, inr, ◌≢◌, ◌↔◌, ⊎_elim}
use mathlib.Core.List.{List, [], ◌∷◌, ◌++◌, append_assoc}
use Prim.Native.Nat.{ℕ, ◌+◌, ◌≤◌}
use native.Mathlib.Omega.{arith}
use Rattle.lists.specs.Lists.{All, In, sum, one}
use Rattle.lists.proofs.Tests.{if_eq, if_same, if_other, one_same}
use Rattle.lists.proofs.Members.{all_in, all_mid, in_mid, in_split, sum_append, in_sum}
use Rattle.ledger.specs.Ledger.{Entry, Level, Ledger, Item, tag, items, Rising, slotted, WellFormed}
use Rattle.ledger.specs.Walk.{in_slot, absent, list_of, head, start, after, step, Shows}
use Rattle.ledger.proofs.Items.{sum_tag, in_tag_rest}
use Rattle.ledger.proofs.Rising.{Within, all_within}
use Rattle.ledger.proofs.Slots.{below_not, below_le}

-- The list of a frequency among the items

tag_in : (f : ℕ) (es : List Entry) (xs : List Item) (x : Item) → In x (tag f es xs) → In x (tag f es []) ⊎ In x xs
tag_in f [] xs x i = inr i
tag_in f (e ∷ es) xs x (inl p) = inl (inl p)
tag_in f (e ∷ es) xs x (inr i) = ⊎_elim (λ j. inl (inr j)) (λ j. inr j) (tag_in f es xs x i)

in_tag : (f : ℕ) (es : List Entry) (xs : List Item) (x : Item) → In x (tag f es []) → In x (tag f es xs)
in_tag f [] xs x x3 = elim x3 [ ]
in_tag f (e ∷ es) xs x (inl p) = inl p
in_tag f (e ∷ es) xs x (inr i) = inr (in_tag f es xs x i)

tag_frequency : (f : ℕ) (es : List Entry) → All (λ x. x.frequency ≡ f) (tag f es [])
tag_frequency f [] = tt
tag_frequency f (e ∷ es) = (refl, tag_frequency f es)

pub list_of_frequency : (f : ℕ) (ls : List Level) → All (λ x. x.frequency ≡ f) (list_of f ls)
list_of_frequency f [] = tt
list_of_frequency f (l ∷ ls) =
    let ih = list_of_frequency f ls in
    if_eq (All (λ x. x.frequency ≡ f)) l.frequency f (λ e. tag_frequency f l.entries) (λ d. ih)

-- every member is an item; what is counted over it is counted over all items
pub list_of_in : (f : ℕ) (ls : List Level) (x : Item) → In x (list_of f ls) → In x (items ls)
list_of_in f [] x i = i
list_of_in f (l ∷ ls) x i =
    let ih = list_of_in f ls x in
    if_eq (λ z. In x z → In x (items (l ∷ ls))) l.frequency f
    (λ e j. in_tag l.frequency l.entries (items ls) x (subst (λ (g : ℕ). In x (tag g l.entries [])) (sym e) j))
    (λ d j. in_tag_rest l.frequency l.entries (items ls) x (ih j)) i

list_of_sum : (g : Item → ℕ) (f : ℕ) (ls : List Level) → sum g (list_of f ls) ≤ sum g (items ls)
list_of_sum g f [] = omega arith
list_of_sum g f (l ∷ ls) =
    let ih = list_of_sum g f ls in
    let t = sum_tag g l.frequency l.entries (items ls) in
    if_eq (λ z. sum g z ≤ sum g (items (l ∷ ls))) l.frequency f
    (λ e. let p = ap (λ (h : ℕ). sum g (tag h l.entries [])) e in omega arith)
    (λ d. omega arith)

-- an item is a member of the list of its frequency
pub in_list_of : (a : ℕ) (ls : List Level) → Rising a ls → (x : Item) → In x (items ls) → In x (list_of x.frequency ls)
in_list_of a [] r x i = elim i [ ]
in_list_of a (l ∷ ls) r x i =
    ⊎_elim
    (λ j.
    let e : x.frequency ≡ l.frequency = all_in (λ y. y.frequency ≡ l.frequency) (tag l.frequency l.entries []) x (tag_frequency l.frequency l.entries) j in
    rw (if_same l.frequency x.frequency (tag x.frequency l.entries []) (list_of x.frequency ls) (sym e))
    (subst (λ (g : ℕ). In x (tag g l.entries [])) (sym e) j))
    (λ j.
    let b = (all_in (Within l.frequency) (items ls) x (all_within l.frequency ls r.3) j).0 in
    rw (if_other l.frequency x.frequency (tag x.frequency l.entries []) (list_of x.frequency ls) (λ e. absurd (omega arith)))
    (in_list_of l.frequency ls r.3 x j))
    (tag_in l.frequency l.entries (items ls) x i)

-- A step finds its place

in_slot_none : (s : ℕ) (xs : List Item) → slotted s xs ≡ 0 → in_slot s xs ≡ []
in_slot_none s [] h = refl
in_slot_none s (x ∷ xs) h =
    if_eq (λ z. z ≡ []) x.slot s
    (λ e. absurd (omega (arith, one_same x.slot s e)))
    (λ d. in_slot_none s xs (omega arith))

-- an item whose slot stands once is all that the slot has
in_slot_one : (xs : List Item) (x : Item) → In x xs → slotted x.slot xs ≤ 1 → in_slot x.slot xs ≡ x ∷ []
in_slot_one [] x x4 h = elim x4 [ ]
in_slot_one (y ∷ ys) x (inl e) h =
    let s : y.slot ≡ x.slot = ap (λ (z : Item). z.slot) e in
    if_same y.slot x.slot (y ∷ in_slot x.slot ys) (in_slot x.slot ys) s
    ∙ (λ i. e i ∷ in_slot_none x.slot ys (omega (arith, one_same y.slot x.slot s)) i)
in_slot_one (y ∷ ys) x (inr i) h =
    let c = in_sum (λ z. one z.slot x.slot) ys x i in
    let o = one_same x.slot x.slot refl in
    if_eq (λ z. z ≡ x ∷ []) y.slot x.slot
    (λ e. absurd (omega (arith, one_same y.slot x.slot e)))
    (λ d. in_slot_one ys x i (omega arith))

after_at : (ps : List Item) (x : Item) (xs : List Item) → slotted x.slot ps ≡ 0 → after x.slot (ps ++ x ∷ xs) ≡ head xs
after_at [] x xs h = if_same x.slot x.slot (head xs) (after x.slot xs) refl
after_at (p ∷ ps) x xs h =
    if_eq (λ z. z ≡ head xs) p.slot x.slot
    (λ e. absurd (omega (arith, one_same p.slot x.slot e)))
    (λ d. after_at ps x xs (omega arith))

-- Steps from no bound slot

pub step_free : (l : Ledger) (s : ℕ) → slotted s (items l.levels) ≡ 0 → step s l ≡ absent
unfolding step
step_free l s h = rw (in_slot_none s (items l.levels) h)

module _ (l : Ledger) (w : WellFormed l) where
  once : (s : ℕ) → slotted s (items l.levels) ≤ 1
  once s = let c = w.slots s in let b = below_le s l.capacity in omega arith

  -- a slot out of range is not bound
  pub step_outside : (s : ℕ) → l.capacity ≤ s → step s l ≡ absent
  step_outside s h = step_free l s (let c = w.slots s in let b = below_not s l.capacity h in omega arith)

  -- from a bound slot to what stands behind it in the list of its frequency
  pub step_at : (ps : List Item) (x : Item) (xs : List Item) → list_of x.frequency l.levels ≡ ps ++ x ∷ xs → step x.slot l ≡ head xs
  unfolding step
  step_at ps x xs e =
      let i = list_of_in x.frequency l.levels x (rw e (in_mid ps x xs)) in
      let c = list_of_sum (λ y. one y.slot x.slot) x.frequency l.levels in
      let a = ap (sum (λ (y : Item). one y.slot x.slot)) e in
      let b = sum_append (λ (y : Item). one y.slot x.slot) ps (x ∷ xs) in
      let o = one_same x.slot x.slot refl in
      let u = once x.slot in
      rw (in_slot_one (items l.levels) x i u, e) (after_at ps x xs (omega arith))

  shows_from : (f : ℕ) (ps xs : List Item) → list_of f l.levels ≡ ps ++ xs → Shows l (head xs) xs
  shows_from f ps [] e = refl
  shows_from f ps (x ∷ xs) e =
      let g : x.frequency ≡ f = (all_mid (λ (y : Item). y.frequency ≡ f) ps x xs (rw e at (list_of_frequency f l.levels))).0 in
      (refl, rw (step_at ps x xs (ap (λ (h : ℕ). list_of h l.levels) g ∙ e)) (shows_from f (ps ++ x ∷ []) xs (e ∙ sym (append_assoc ps (x ∷ []) xs))))

  -- The walk of a frequency, from its start to "no more", shows exactly the ledger's list.
  pub walk_shows : (f : ℕ) → Shows l (start f l) (list_of f l.levels)
  unfolding start
  walk_shows f = shows_from f [] (list_of f l.levels) refl

  -- a step from a bound slot is not ABSENT
  pub step_bound : (x : Item) → In x (items l.levels) → step x.slot l ≢ absent
  step_bound x i q =
      let p = in_split x (list_of x.frequency l.levels) (in_list_of 0 l.levels w.rising x i) in
      not_absent p.after (sym (step_at p.before x p.after p.is) ∙ q)
    where
      not_absent : (xs : List Item) → head xs ≢ absent
      not_absent [] e = let z : ◌≡◌ {A = ℕ} 0 1 = cc in absurd (omega arith)
      not_absent (x ∷ xs) e = let z : ◌≡◌ {A = ℕ} 0 1 = cc in absurd (omega arith)

  pub step_absent : (s : ℕ) → (step s l ≡ absent) ↔ (slotted s (items l.levels) ≡ 0)
  step_absent s = (λ e. go (items l.levels) (λ x i. i) e, step_free l s)
    where
      go : (xs : List Item) → ((x : Item) → In x xs → In x (items l.levels)) → step s l ≡ absent → slotted s xs ≡ 0
      go [] f e = refl
      go (x ∷ xs) f e =
          let ih = go xs (λ y i. f y (inr i)) e in
          if_eq (λ n. n + slotted s xs ≡ 0) x.slot s
          (λ q. absurd (step_bound x (f x (inl refl)) (ap (λ (t : ℕ). step t l) q ∙ e))) (λ d. omega arith)
