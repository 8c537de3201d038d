-- Tests of two numbers and choices by them, taken apart into their two cases; answers yes and no. Each law is one case split on the outcome.
use mathlib.Core.Path.{◌≡◌, refl, sym, ap, ◌∙◌}
use mathlib.Core.Logic.{◌≢◌, ◌↔◌}
use mathlib.Core.Bool.{Bool, true, false, cond}
use Prim.Native.Nat.{ℕ, ◌≤◌, ◌<◌}
use native.Mathlib.Decide.{ℕ_discrete}
use native.Mathlib.Omega.{arith}
use lib.Dec.{eqb, ltb, leb}
use borrow.Author.Tests.{ltb-true, ltb-false, leb-true, leb-false, eqb-true, eqb-false}
use Rattle.lists.specs.Lists.{one}

pub if_eq : {A : Type 0} (P : A → Type 0) (a b : ℕ) {x y : A} → (a ≡ b → P x) → (a ≢ b → P y) → P (cond (eqb a b) x y)
if_eq P a b {x} {y} p q = go (eqb a b) refl
  where
    go : (t : Bool) → eqb a b ≡ t → P (cond t x y)
    go true e = p (eqb-true a b e)
    go false e = q (eqb-false a b e)

pub if_lt : {A : Type 0} (P : A → Type 0) (a b : ℕ) {x y : A} → (a < b → P x) → (b ≤ a → P y) → P (cond (ltb a b) x y)
if_lt P a b {x} {y} p q = go (ltb a b) refl
  where
    go : (t : Bool) → ltb a b ≡ t → P (cond t x y)
    go true e = p (ltb-true a b e)
    go false e = q (ltb-false a b e)

pub if_le : {A : Type 0} (P : A → Type 0) (a b : ℕ) {x y : A} → (a ≤ b → P x) → (b < a → P y) → P (cond (leb a b) x y)
if_le P a b {x} {y} p q = go (leb a b) refl
  where
    go : (t : Bool) → leb a b ≡ t → P (cond t x y)
    go true e = p (leb-true a b e)
    go false e = q (leb-false a b e)

-- two numbers are equal or not, in order or not
pub by_eq : {P : Type 0} (a b : ℕ) → (a ≡ b → P) → (a ≢ b → P) → P
by_eq {P} a b p q = go (ℕ_discrete a b)
  where
    go : Dec (a ≡ b) → P
    go (yes e) = p e
    go (no d) = q d

pub by_lt : {P : Type 0} (a b : ℕ) → (a < b → P) → (b ≤ a → P) → P
by_lt {P} a b p q = go (ltb a b) refl
  where
    go : (t : Bool) → ltb a b ≡ t → P
    go true e = p (ltb-true a b e)
    go false e = q (ltb-false a b e)

pub neither : (b : Bool) → b ≡ true → b ≡ false → ⊥
neither b p q = let z : ◌≡◌ {A = ℕ} 1 0 = ap (λ (c : Bool). cond c 1 0) (sym p ∙ q) in omega arith

-- an answer "no" where P does not hold
pub says_no : (P : Type 0) → (P → ⊥) → (false ≡ true) ↔ P
says_no P n = (λ e. absurd (neither false e refl), λ p. absurd (n p))

-- what such an answer says
pub said_no : (P : Type 0) {b : Bool} → (b ≡ true) ↔ P → b ≡ false → P → ⊥
said_no P {b} h e p = neither b (h.1 p) e

pub if_same : {A : Type 0} (a b : ℕ) (x y : A) → a ≡ b → cond (eqb a b) x y ≡ x
if_same a b x y e = if_eq (λ z. z ≡ x) a b (λ s. refl) (λ d. absurd (d e))

pub if_other : {A : Type 0} (a b : ℕ) (x y : A) → a ≢ b → cond (eqb a b) x y ≡ y
if_other a b x y e = if_eq (λ z. z ≡ y) a b (λ s. absurd (e s)) (λ d. refl)

pub if_less : {A : Type 0} (a b : ℕ) (x y : A) → a < b → cond (ltb a b) x y ≡ x
if_less a b x y e = if_lt (λ z. z ≡ x) a b (λ s. refl) (λ d. absurd (omega arith))

pub if_not_less : {A : Type 0} (a b : ℕ) (x y : A) → b ≤ a → cond (ltb a b) x y ≡ y
if_not_less a b x y e = if_lt (λ z. z ≡ y) a b (λ s. absurd (omega arith)) (λ d. refl)

pub if_at_most : {A : Type 0} (a b : ℕ) (x y : A) → a ≤ b → cond (leb a b) x y ≡ x
if_at_most a b x y e = if_le (λ z. z ≡ x) a b (λ s. refl) (λ d. absurd (omega arith))

pub if_above : {A : Type 0} (a b : ℕ) (x y : A) → b < a → cond (leb a b) x y ≡ y
if_above a b x y e = if_le (λ z. z ≡ y) a b (λ s. absurd (omega arith)) (λ d. refl)

pub one_same : (a b : ℕ) → a ≡ b → one a b ≡ 1
one_same a b e = if_same a b 1 0 e

pub one_other : (a b : ℕ) → a ≢ b → one a b ≡ 0
one_other a b e = if_other a b 1 0 e
