-- Levels moved to other frequencies: the items are the same but for their frequencies, the ledger stays well formed where the change of
-- frequencies never falls, and two changes after one another are one. Inductions on the levels from the lowest up; what carries each is one law
-- of `join`: that it swaps two neighbouring parts of the items, how it rises, and that a list joined twice is joined once.
use mathlib.Core.Path.{◌≡◌, refl, sym, ap, ◌∙◌}
use mathlib.Core.Logic.{inl, inr, ⊎_elim}
use mathlib.Core.Option.{Option, none, some}
use mathlib.Core.List.{List, [], ◌∷◌, ◌++◌, append_assoc}
use Prim.Native.Nat.{ℕ, ◌+◌, ◌≤◌, ◌<◌}
use native.Mathlib.Omega.{arith}
use Rattle.numbers.specs.Frequency.{CEILING}
use Rattle.lists.specs.Lists.{All, In, sum, one}
use Rattle.lists.proofs.Tests.{if_eq, if_same, if_other}
use Rattle.lists.proofs.Members.{length_sum, sum_append, in_left, in_right, in_either}
use Rattle.ledger.specs.Ledger.{Entry, Level, Ledger, Item, item, tag, items, lookup, if_found, size, NonEmpty, Rising, keyed, WellFormed}
use Rattle.ledger.specs.Regroup.{join, regroup, regrouped, NeverFalls, rated, OnlyLists}
use Rattle.ledger.proofs.Items.{found_in, found_none, none_found, in_found, tag_append}

-- The items

-- a list in front of further items, as two lists
tag_front : (f : ℕ) (es : List Entry) (xs : List Item) → tag f es xs ≡ tag f es [] ++ xs
tag_front f [] xs = refl
tag_front f (e ∷ es) xs = ap {B = List Item} (λ r. item f e ∷ r) (tag_front f es xs)

-- two parts in front have changed places
record Swapped (xs ys : List Item) : Type 0 where
  front : List Item
  next : List Item
  rest : List Item
  was : xs ≡ front ++ (next ++ rest)
  is : ys ≡ next ++ (front ++ rest)

join_swaps : (f : ℕ) (es : List Entry) (ms : List Level) → Swapped (tag f es (items ms)) (items (join f es ms))
join_swaps f es [] = record { front = []; next = []; rest = tag f es []; was = refl; is = refl }
join_swaps f es (m ∷ ms) =
    if_eq (λ (ls : List Level). Swapped (tag f es (items (m ∷ ms))) (items ls)) m.frequency f
    (λ s. record {
      front = tag f es [];
      next = tag f m.entries [];
      rest = items ms;
      was = tag_front f es (items (m ∷ ms)) ∙ rw s (ap (λ r. tag f es [] ++ r) (tag_front f m.entries (items ms)));
      is =
          tag_append f m.entries es (items ms) ∙ tag_front f m.entries (tag f es (items ms))
          ∙ ap (λ r. tag f m.entries [] ++ r) (tag_front f es (items ms));
    })
    (λ d. record { front = []; next = []; rest = tag f es (items (m ∷ ms)); was = refl; is = refl })

swapped_sum : (c : Item → ℕ) (xs ys : List Item) → Swapped xs ys → sum c ys ≡ sum c xs
swapped_sum c xs ys p = rw (p.was, p.is) (simp sum_append (omega arith))

swapped_in : (x : Item) (xs ys : List Item) → Swapped xs ys → In x xs → In x ys
swapped_in x xs ys p i =
    rw p.is
    (⊎_elim
    (λ j. in_right x p.next (p.front ++ p.rest) (in_left x p.front p.rest j))
    (λ j.
    ⊎_elim (in_left x p.next (p.front ++ p.rest)) (λ k. in_right x p.next (p.front ++ p.rest) (in_right x p.front p.rest k))
    (in_either x p.next p.rest j))
    (in_either x p.front (p.next ++ p.rest) (rw p.was at i)))

-- a list at its new frequency, in front of further items

tag_sum : (c : Item → ℕ) (g : ℕ → ℕ) (f : ℕ) (es : List Entry) (xs ys : List Item) → sum c ys ≡ sum (λ x. c (rated g x)) xs →
    sum c (tag (g f) es ys) ≡ sum (λ x. c (rated g x)) (tag f es xs)
tag_sum c g f [] xs ys h = h
tag_sum c g f (e ∷ es) xs ys h = let ih = tag_sum c g f es xs ys h in omega arith

tag_in : (g : ℕ → ℕ) (x : Item) (f : ℕ) (es : List Entry) (xs ys : List Item) → (In x xs → In (rated g x) ys) →
    In x (tag f es xs) → In (rated g x) (tag (g f) es ys)
tag_in g x f [] xs ys h i = h i
tag_in g x f (e ∷ es) xs ys h (inl p) = inl (ap (rated g) p)
tag_in g x f (e ∷ es) xs ys h (inr i) = inr (tag_in g x f es xs ys h i)

-- what is counted over the items is counted at their new frequencies
pub regroup_sum : (c : Item → ℕ) (g : ℕ → ℕ) (ls : List Level) → sum c (items (regroup g ls)) ≡ sum (λ x. c (rated g x)) (items ls)
regroup_sum c g [] = refl
regroup_sum c g (l ∷ ls) =
    swapped_sum c _ _ (join_swaps (g l.frequency) l.entries (regroup g ls))
    ∙ tag_sum c g l.frequency l.entries (items ls) (items (regroup g ls)) (regroup_sum c g ls)

-- every item is still there, at its new frequency
pub regroup_in : (g : ℕ → ℕ) (ls : List Level) (x : Item) → In x (items ls) → In (rated g x) (items (regroup g ls))
regroup_in g [] x i = elim i [ ]
regroup_in g (l ∷ ls) x i =
    swapped_in (rated g x) _ _ (join_swaps (g l.frequency) l.entries (regroup g ls))
    (tag_in g x l.frequency l.entries (items ls) (items (regroup g ls)) (regroup_in g ls x) i)

-- as many keys, and each as often
pub regroup_size : (g : ℕ → ℕ) (l : Ledger) → size (regrouped g l) ≡ size l
regroup_size g l =
    length_sum (items (regroup g l.levels)) ∙ regroup_sum (λ x. 1) g l.levels ∙ sym (length_sum (items l.levels))

pub regroup_keyed : (g : ℕ → ℕ) (l : Ledger) (k : ℕ) → keyed k (items (regrouped g l).levels) ≡ keyed k (items l.levels)
regroup_keyed g l k = regroup_sum (λ x. one x.key k) g l.levels

-- Nothing is lost: what the ledger holds of a key is what it held, at the new frequency, and nothing where it held nothing.
pub regroup_lookup : (g : ℕ → ℕ) (l : Ledger) → WellFormed l → (k : ℕ) → lookup k (regrouped g l) ≡ if_found (lookup k l) none (λ x. some (rated g x))
regroup_lookup g l w k = go (lookup k l) refl
  where
    go : (o : Option Item) → lookup k l ≡ o → lookup k (regrouped g l) ≡ if_found o none (λ x. some (rated g x))
    go none e = none_found k (items (regroup g l.levels)) (regroup_keyed g l k ∙ found_none k (items l.levels) e)
    go (some x) e =
        let i = found_in k (items l.levels) x e in
        rw (← i.1)
        (in_found (items (regroup g l.levels)) (rated g x) (regroup_in g l.levels x i.0) (omega (arith, regroup_keyed g l x.key, w.keys x.key)))

-- and all but the lists is as it was
pub regroup_leaves : (g : ℕ → ℕ) (l : Ledger) → OnlyLists l (regrouped g l)
regroup_leaves g l = record { same_capacity = refl; same_epoch = refl; same_free = refl }

-- The levels rise

-- the frequencies rise strictly, from b on
abbrev pub Ladder : ℕ → List Level → Type 0
Ladder b [] = Unit {0}
Ladder b (m ∷ ms) = (b ≤ m.frequency) × Ladder (m.frequency + 1) ms

join_ladder : (b f : ℕ) (es : List Entry) (ms : List Level) → b ≤ f → Ladder f ms → Ladder b (join f es ms)
join_ladder b f es [] h r = (h, tt)
join_ladder b f es (m ∷ ms) h r =
    if_eq (Ladder b) m.frequency f
    (λ s. (h, rw (← s) r.1))
    (λ d. let q = r.0 in (h, (omega arith, r.1)))

pub regroup_ladder : (g : ℕ → ℕ) → NeverFalls g → (a b : ℕ) (ls : List Level) → Rising a ls → ((f : ℕ) → a < f → f ≤ CEILING → b ≤ g f) →
    Ladder b (regroup g ls)
regroup_ladder g up a b [] r h = tt
regroup_ladder g up a b (l ∷ ls) r h =
    join_ladder b (g l.frequency) l.entries (regroup g ls) (h l.frequency r.0 r.1)
    (regroup_ladder g up l.frequency (g l.frequency) ls r.3 (λ f above c. up l.frequency f (omega arith)))

-- a new frequency of which P holds, with a list that is not empty
abbrev pub Used : (ℕ → Type 0) → Level → Type 0
Used P m = P m.frequency × NonEmpty m.entries

some_more : (ds es : List Entry) → NonEmpty es → NonEmpty (ds ++ es)
some_more [] es n = n
some_more (d ∷ ds) es n = tt

-- every new frequency is one that g gives, and no list is empty
pub regroup_used : (P : ℕ → Type 0) (g : ℕ → ℕ) (a : ℕ) (ls : List Level) → Rising a ls → ((f : ℕ) → a < f → f ≤ CEILING → P (g f)) →
    All (Used P) (regroup g ls)
regroup_used P g a [] r p = tt
regroup_used P g a (l ∷ ls) r p =
    let q = r.0 in joined (regroup g ls) (regroup_used P g l.frequency ls r.3 (λ f above c. p f (omega arith) c))
  where
    here : P (g l.frequency)
    here = p l.frequency r.0 r.1

    joined : (ms : List Level) → All (Used P) ms → All (Used P) (join (g l.frequency) l.entries ms)
    joined [] h = ((here, r.2), tt)
    joined (m ∷ ms) h =
        if_eq (All (Used P)) m.frequency (g l.frequency)
        (λ s. ((here, some_more m.entries l.entries r.2), h.1)) (λ d. ((here, r.2), h))

ladder_rises : (b : ℕ) (ms : List Level) → Ladder (b + 1) ms → All (Used (λ f. f ≤ CEILING)) ms → Rising b ms
ladder_rises b [] r h = tt
ladder_rises b (m ∷ ms) r h = let q = r.0 in (omega arith, h.0.0, h.0.1, ladder_rises m.frequency ms r.1 h.1)

module _ (g : ℕ → ℕ) (up : NeverFalls g) (l : Ledger) (w : WellFormed l) where
  -- where all frequencies lie above a, it is enough that g makes levels of those above a
  pub regroup_formed_above : (a : ℕ) → Rising a l.levels → ((f : ℕ) → a < f → f ≤ CEILING → (1 ≤ g f) × (g f ≤ CEILING)) → WellFormed (regrouped g l)
  regroup_formed_above a r fits = record {
    rising =
        ladder_rises 0 (regroup g l.levels) (regroup_ladder g up a 1 l.levels r (λ f h c. (fits f h c).0))
        (regroup_used (λ f. f ≤ CEILING) g a l.levels r (λ f h c. (fits f h c).1));
    keys = λ k. omega (arith, regroup_keyed g l k, w.keys k);
    slots = λ s. omega (arith, regroup_sum (λ x. one x.slot s) g l.levels, w.slots s);
  }

  pub regroup_formed : ((f : ℕ) → 1 ≤ f → f ≤ CEILING → (1 ≤ g f) × (g f ≤ CEILING)) → WellFormed (regrouped g l)
  regroup_formed fits = regroup_formed_above 0 w.rising fits

-- Two changes after one another

join_twice : (f : ℕ) (es ds : List Entry) (ms : List Level) → join f es (join f ds ms) ≡ join f (ds ++ es) ms
join_twice f es ds [] = if_same f f _ _ refl
join_twice f es ds (m ∷ ms) =
    if_eq (λ (ls : List Level). join f es ls ≡ join f (ds ++ es) (m ∷ ms)) m.frequency f
    (λ s.
    if_same f f _ _ refl
    ∙ ap {B = List Level} (λ zs. record { frequency = f; entries = zs } ∷ ms) (append_assoc m.entries ds es)
    ∙ sym (if_same m.frequency f _ _ s))
    (λ d. if_same f f _ _ refl ∙ sym (if_other m.frequency f _ _ d))

regroup_join : (h : ℕ → ℕ) (f : ℕ) (es : List Entry) (ms : List Level) → regroup h (join f es ms) ≡ join (h f) es (regroup h ms)
regroup_join h f es [] = refl
regroup_join h f es (m ∷ ms) =
    if_eq (λ (ls : List Level). regroup h ls ≡ join (h f) es (regroup h (m ∷ ms))) m.frequency f
    (λ s. rw s (sym (join_twice (h f) es m.entries (regroup h ms))))
    (λ d. refl)

-- One change after another is the two at once, whatever they are: only neighbours come together.
pub regroup_twice : (g h : ℕ → ℕ) (ls : List Level) → regroup h (regroup g ls) ≡ regroup (λ f. h (g f)) ls
regroup_twice g h [] = refl
regroup_twice g h (l ∷ ls) =
    regroup_join h (g l.frequency) l.entries (regroup g ls) ∙ ap (join (h (g l.frequency)) l.entries) (regroup_twice g h ls)

-- changes that agree on the levels
regroup_same : (g h : ℕ → ℕ) (a : ℕ) (ls : List Level) → Rising a ls → ((f : ℕ) → a < f → f ≤ CEILING → g f ≡ h f) → regroup g ls ≡ regroup h ls
regroup_same g h a [] r e = refl
regroup_same g h a (l ∷ ls) r e =
    let q = r.0 in
    let ih = regroup_same g h l.frequency ls r.3 (λ f above c. e f (omega arith) c) in
    λ i. join (e l.frequency r.0 r.1 i) l.entries (ih i)

-- levels that stay where they are
regroup_none : (a : ℕ) (ls : List Level) → Rising a ls → regroup (λ f. f) ls ≡ ls
regroup_none a [] r = refl
regroup_none a (l ∷ ls) r = ap (join l.frequency l.entries) (regroup_none l.frequency ls r.3) ∙ alone ls r.3
  where
    alone : (ms : List Level) → Rising l.frequency ms → join l.frequency l.entries ms ≡ l ∷ ms
    alone [] q = refl
    alone (m ∷ ms) q = if_other m.frequency l.frequency _ _ (λ e. let p = q.0 in absurd (omega arith))

-- the same, of ledgers

abbrev with_levels : Ledger → List Level → Ledger
with_levels l ls = record { capacity = l.capacity; epoch = l.epoch; levels = ls; free = l.free }

pub regrouped_twice : (g h : ℕ → ℕ) (l : Ledger) → regrouped h (regrouped g l) ≡ regrouped (λ f. h (g f)) l
regrouped_twice g h l = ap (with_levels l) (regroup_twice g h l.levels)

module _ (l : Ledger) (w : WellFormed l) (g : ℕ → ℕ) where
  -- where all frequencies lie above a, it is enough that the changes agree on those above a
  pub regrouped_same_above : (a : ℕ) → Rising a l.levels → (h : ℕ → ℕ) → ((f : ℕ) → a < f → f ≤ CEILING → g f ≡ h f) → regrouped g l ≡ regrouped h l
  regrouped_same_above a r h e = ap (with_levels l) (regroup_same g h a l.levels r e)

  pub regrouped_same : (h : ℕ → ℕ) → ((f : ℕ) → 1 ≤ f → f ≤ CEILING → g f ≡ h f) → regrouped g l ≡ regrouped h l
  regrouped_same h e = regrouped_same_above 0 w.rising h e

  pub regrouped_none : ((f : ℕ) → 1 ≤ f → f ≤ CEILING → g f ≡ f) → regrouped g l ≡ l
  regrouped_none e = regrouped_same (λ f. f) e ∙ ap (with_levels l) (regroup_none 0 l.levels w.rising)
