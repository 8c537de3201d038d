-- Halving n times and rebasing: both keep the ledger well formed, n then m halvings are n + m, and rebasing moves levels by its rule also where
-- it changes nothing. Carried by the laws of Regrouped.antt and by four facts on the numbers: f / 2^n never falls, is at most f, is 0 from n = 64
-- on, and f / 2^n / 2^m is f / 2^(n + m).
use mathlib.Core.Path.{◌≡◌, refl, sym, ap, ◌∙◌, subst}
use mathlib.Core.List.{List, [], ◌∷◌}
use Prim.Native.Nat.{ℕ, ◌+◌, ◌≤◌, ◌-◌, ◌/◌, ◌^◌, max}
use native.Mathlib.Nat.{div-eq_of_lt, div-one}
use native.Mathlib.Omega.{arith}
use lib.Pow.{pow_mono, shr-shr, shr_le, shr_mono}
use Rattle.numbers.specs.Frequency.{FIRST, CEILING, halved_times}
use Rattle.numbers.proofs.Halved.{halved_times_few, halved_times_many}
use Rattle.lists.specs.Lists.{All}
use Rattle.lists.proofs.Tests.{if_eq, by_lt}
use Rattle.lists.proofs.Members.{all_map}
use Rattle.ledger.specs.Ledger.{Entry, Level, Ledger, new, level, Rising, WellFormed}
use Rattle.ledger.specs.Buckets.{done, insert, touch, insert_batch, touch_batch}
use Rattle.ledger.specs.Regroup.{regroup, regrouped, decay_halve_times, decay_halve, lowered, rebase_by, rebase_min_freq, NeverFalls, OnlyLists}
use Rattle.ledger.proofs.Regrouped.{regroup_leaves, Used, regroup_used, regroup_formed, regroup_formed_above, regrouped_twice, regrouped_same, regrouped_none}

-- The numbers

-- The cut at 64 halvings changes nothing: a frequency becomes the larger of 1 and f / 2^n, for every n.
pub halved_times_is : (n f : ℕ) → f ≤ CEILING → halved_times n f ≡ max (f / 2 ^ n) FIRST
halved_times_is n f c =
    by_lt n 64 (halved_times_few n f)
    (λ h. let z : f / 2 ^ n ≡ 0 = div-eq_of_lt (omega (arith, pow_mono h)) in omega (arith, halved_times_many n f h))

pub halved_times_up : (n : ℕ) → NeverFalls (halved_times n)
halved_times_up n f h l =
    by_lt n 64
    (λ q. omega (arith, halved_times_few n f q, halved_times_few n h q, shr_mono n l))
    (λ q. omega (arith, halved_times_many n f q, halved_times_many n h q))

pub halved_times_fits : (n f : ℕ) → f ≤ CEILING → (1 ≤ halved_times n f) × (halved_times n f ≤ CEILING)
halved_times_fits n f c = let e = halved_times_is n f c in let s = shr_le f n in (omega arith, omega arith)

-- n then m halvings of a frequency are n + m
pub halved_times_add : (n m f : ℕ) → f ≤ CEILING → halved_times m (halved_times n f) ≡ halved_times (n + m) f
halved_times_add n m f c =
    halved_times_is m (halved_times n f) (halved_times_fits n f c).1
    ∙ ap (λ (z : ℕ). max (z / 2 ^ m) FIRST) (halved_times_is n f c)
    ∙ at_least (f / 2 ^ n)
    ∙ ap (λ (z : ℕ). max z FIRST) (shr-shr f n m)
    ∙ sym (halved_times_is (n + m) f c)
  where
    at_least : (z : ℕ) → max (max z FIRST / 2 ^ m) FIRST ≡ max (z / 2 ^ m) FIRST
    at_least z =
        by_lt z 1
        (λ h. omega (arith, shr_le (max z FIRST) m, shr_le z m))
        (λ h. ap (λ (y : ℕ). max (y / 2 ^ m) FIRST) (let e : max z FIRST ≡ z = omega arith in e))

-- Halving

pub halvings_leave : (n : ℕ) (l : Ledger) → OnlyLists l (decay_halve_times n l).1
unfolding decay_halve_times
halvings_leave n l = regroup_leaves (halved_times n) l

module _ (l : Ledger) (w : WellFormed l) where
  pub halvings_formed : (n : ℕ) → WellFormed (decay_halve_times n l).1
  unfolding decay_halve_times
  halvings_formed n = regroup_formed (halved_times n) (halved_times_up n) l w (λ f h c. halved_times_fits n f c)

  -- from n = 64 on every frequency is 1
  pub halvings_many : (n : ℕ) → 64 ≤ n → All (λ (m : Level). m.frequency ≡ FIRST) (decay_halve_times n l).1.levels
  unfolding decay_halve_times
  halvings_many n h =
      all_map (Used (λ f. f ≡ FIRST)) (λ (m : Level). m.frequency ≡ FIRST) (λ m u. u.0) (regroup (halved_times n) l.levels)
      (regroup_used (λ f. f ≡ FIRST) (halved_times n) 0 l.levels w.rising (λ f a c. halved_times_many n f h))

  -- n then m halvings leave the ledger that n + m leave, lists included: for all numbers, so where n + m is below 2^64, which a call can be given
  pub halvings_add : (n m : ℕ) → (decay_halve_times m (decay_halve_times n l).1).1 ≡ (decay_halve_times (n + m) l).1
  unfolding decay_halve_times
  halvings_add n m =
      regrouped_twice (halved_times n) (halved_times m) l
      ∙ regrouped_same l w (λ f. halved_times m (halved_times n f)) (halved_times (n + m)) (λ f h c. halved_times_add n m f c)

  pub halvings_none : (decay_halve_times 0 l).1 ≡ l
  unfolding decay_halve_times
  halvings_none = regrouped_none l w (halved_times 0) (λ f h c. let e = div-one f in omega arith)

-- Rebasing

pub lowered_up : (low : ℕ) → NeverFalls (lowered low)
lowered_up low f h l = omega arith

pub rebase_leaves : (l : Ledger) → OnlyLists l (rebase_min_freq l).1
unfolding rebase_min_freq
rebase_leaves l = go l.levels
  where
    still : OnlyLists l l
    still = record { same_capacity = refl; same_epoch = refl; same_free = refl }

    go : (ls : List Level) → OnlyLists l (rebase_by ls l)
    go [] = still
    go (m ∷ ms) = if_eq (OnlyLists l) m.frequency FIRST (λ s. still) (λ d. regroup_leaves (lowered m.frequency) l)

module _ (l : Ledger) (w : WellFormed l) where
  pub rebase_formed : WellFormed (rebase_min_freq l).1
  unfolding rebase_min_freq
  rebase_formed = go l.levels refl
    where
      go : (ls : List Level) → l.levels ≡ ls → WellFormed (rebase_by ls l)
      go [] e = w
      go (m ∷ ms) e =
          let r : Rising 0 (m ∷ ms) = subst (Rising 0) e w.rising in
          let low : Rising (m.frequency - 1) (m ∷ ms) = (let p = r.0 in (omega arith, r.1, r.2, r.3)) in
          if_eq WellFormed m.frequency FIRST (λ s. w)
          (λ d. regroup_formed_above (lowered m.frequency) (lowered_up m.frequency) l w (m.frequency - 1) (rw e low) (λ f h c. (omega arith, omega arith)))

  -- the rule f - (lowest - 1) is all of it: where the lowest frequency is 1 it changes nothing
  pub rebase_is : (m : Level) (ms : List Level) → l.levels ≡ m ∷ ms → (rebase_min_freq l).1 ≡ regrouped (lowered m.frequency) l
  unfolding rebase_min_freq
  rebase_is m ms e =
      ap (λ (ls : List Level). rebase_by ls l) e
      ∙ if_eq (λ (z : Ledger). z ≡ regrouped (lowered m.frequency) l) m.frequency FIRST
      (λ s. sym (regrouped_none l w (lowered m.frequency) (λ f h c. omega arith))) (λ d. refl)

-- Examples, by computation

pub halved_once : (f : ℕ) → halved_times 1 f ≡ max (f / 2) FIRST
halved_once f = refl

-- a ledger with these lists
abbrev table : List Level → Ledger
table ls = record { capacity = 4; epoch = 7; levels = ls; free = [] }

module _ (a b b' c : Entry) where
  -- 1:[c] 2:[b,b'] 3:[a] halved is 1:[a,b,b',c]
  pub halved_together : decay_halve (table (level 1 (c ∷ []) (level 2 (b ∷ b' ∷ []) (level 3 (a ∷ []) [])))) ≡
      (done [], table (level 1 (a ∷ b ∷ b' ∷ c ∷ []) []))
  unfolding decay_halve decay_halve_times
  halved_together = refl

  -- a key at 2^64 - 1 halved 63 times is at 1
  pub halved_from_the_ceiling : decay_halve_times 63 (table (level CEILING (a ∷ []) [])) ≡ (done [], table (level 1 (a ∷ []) []))
  unfolding decay_halve_times
  halved_from_the_ceiling = refl

  -- 3:[a] 5:[b] rebased is 1:[a] 3:[b]
  pub rebased_apart : rebase_min_freq (table (level 3 (a ∷ []) (level 5 (b ∷ []) []))) ≡ (done [], table (level 1 (a ∷ []) (level 3 (b ∷ []) [])))
  unfolding rebase_min_freq
  rebased_apart = refl

-- a key bound in a slot at epoch 0
abbrev bound : (key slot : ℕ) → Entry
bound k s = record { key = k; slot = s; epoch = 0 }

-- document 02's C8: insert 1, 2, 3, touch 1 twice and 2 once, halve: 1:[1,2,3]
pub c8_halved : (decay_halve (touch_batch (1 ∷ 1 ∷ 2 ∷ []) (insert_batch (1 ∷ 2 ∷ 3 ∷ []) (new 4)).1).1).1.levels ≡
    level 1 (bound 1 0 ∷ bound 2 1 ∷ bound 3 2 ∷ []) []
unfolding decay_halve decay_halve_times touch_batch insert_batch touch insert
c8_halved = refl
