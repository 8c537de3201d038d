-- Regrouping from below, slot by slot. The levels that are done, folded onto the others regrouped (`onto`), are all levels regrouped; that stays
-- so when the tail of the next level joins them, and at the end it is the levels that are done. What carries it: slots that settle twice at one
-- frequency settle once.
use mathlib.Core.Path.{◌≡◌, refl, sym, ap, ◌∙◌}
use mathlib.Core.List.{List, [], ◌∷◌, ◌++◌, append_assoc}
use Prim.Native.Nat.{ℕ}
use native.Mathlib.Omega.{arith}
use Rattle.lists.proofs.Tests.{if_eq, if_same, if_other}
use Rattle.levels.specs.Levels.{Level, level, keep, join, LevelsRise}
use Rattle.buckets_regroup.specs.Regroup.{settle, regroup}
use Rattle.buckets_regroup.specs.Falls.{under}

-- ---- levels listed from the highest down

under_append : (ds us vs : List Level) → under ds (us ++ vs) ≡ under ds us ++ vs
under_append [] us vs = refl
under_append (d ∷ ds) us vs = under_append ds (d ∷ us) vs

pub under_is : (ds ls : List Level) → under ds ls ≡ under ds [] ++ ls
under_is ds ls = under_append ds [] ls

-- ---- the levels ds, listed from the highest down, moved onto the levels ms

abbrev pub onto : List Level → List Level → List Level
onto [] ms = ms
onto (d ∷ ds) ms = onto ds (settle d.freq d.slots ms)

settle_twice : (f : ℕ) (zs ys : List ℕ) (ms : List Level) → settle f zs (settle f ys ms) ≡ settle f (ys ++ zs) ms
settle_twice f zs ys [] = if_same f f _ _ refl
settle_twice f zs ys (m ∷ ms) =
    if_eq (λ (ls : List Level). settle f zs ls ≡ settle f (ys ++ zs) (m ∷ ms)) m.freq f
    (λ s. if_same f f _ _ refl ∙ ap (λ (ws : List ℕ). level f ws ∷ ms) (append_assoc m.slots ys zs) ∙ sym (if_same m.freq f _ _ s))
    (λ d. if_same f f _ _ refl ∙ sym (if_other m.freq f _ _ d))

-- the tail of a level first, and then the rest of it
module _ (g : ℕ → ℕ) (f x : ℕ) where
  tail_alone : (xs : List ℕ) (vs : List Level) → settle (g f) (x ∷ []) (regroup g (keep f xs vs)) ≡ settle (g f) (xs ++ x ∷ []) (regroup g vs)
  tail_alone [] vs = refl
  tail_alone (y ∷ ys) vs = settle_twice (g f) (x ∷ []) (y ∷ ys) (regroup g vs)

  tail_joins : (zs xs : List ℕ) (vs : List Level) →
      settle (g f) (x ∷ zs) (regroup g (keep f xs vs)) ≡ settle (g f) zs (settle (g f) (xs ++ x ∷ []) (regroup g vs))
  tail_joins zs xs vs = sym (settle_twice (g f) zs (x ∷ []) (regroup g (keep f xs vs))) ∙ ap (settle (g f) zs) (tail_alone xs vs)

  -- a slot that falls
  pub onto_falls : (ds : List Level) (xs : List ℕ) (vs : List Level) →
      onto (join x (g f) ds) (regroup g (keep f xs vs)) ≡ onto ds (regroup g (level f (xs ++ x ∷ []) ∷ vs))
  onto_falls [] xs vs = tail_alone xs vs
  onto_falls (d ∷ ds) xs vs =
      if_eq (λ (es : List Level). onto es (regroup g (keep f xs vs)) ≡ onto (d ∷ ds) (regroup g (level f (xs ++ x ∷ []) ∷ vs))) d.freq (g f)
      (λ s. ap (onto ds) (tail_joins d.slots xs vs ∙ ap (λ (h : ℕ). settle h d.slots (regroup g (level f (xs ++ x ∷ []) ∷ vs))) (sym s)))
      (λ n. ap (onto (d ∷ ds)) (tail_alone xs vs))

-- ---- levels that rise are done

rise_under : (a : ℕ) (ds ls : List Level) → LevelsRise a (under ds ls) → (b : ℕ) × LevelsRise b ls
rise_under a [] ls r = (a, r)
rise_under a (d ∷ ds) ls r = let q = rise_under a ds (d ∷ ls) r in (d.freq, q.1.3)

settle_apart : (d : Level) (ms : List Level) → LevelsRise d.freq ms → settle d.freq d.slots ms ≡ d ∷ ms
settle_apart d [] r = refl
settle_apart d (m ∷ ms) r = if_other m.freq d.freq _ _ (let l = r.0 in omega arith)

pub onto_rising : (a : ℕ) (ds ms : List Level) → LevelsRise a (under ds ms) → onto ds ms ≡ under ds ms
onto_rising a [] ms r = refl
onto_rising a (d ∷ ds) ms r = ap (onto ds) (settle_apart d ms (rise_under a ds (d ∷ ms) r).1.3) ∙ onto_rising a ds (d ∷ ms) r
