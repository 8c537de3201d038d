-- What is said of lists: of all members, of being a member, and how often.
use Rattle.std.specs.Prelude.{◌≡◌, ◌⊎◌, ◌≢◌, cond, List, [], ◌∷◌, ℕ, zero, suc, ◌+◌, eqb}

-- P holds of each member
abbrev pub All : {A : Type 0} → (A → Type 0) → List A → Type 0
All P [] = Unit {0}
All P (x ∷ xs) = P x × All P xs

-- x is a member
abbrev pub In : {A : Type 0} → A → List A → Type 0
In x [] = ⊥
In x (y ∷ ys) = (y ≡ x) ⊎ In x ys

-- s is no member
abbrev pub Without : ℕ → List ℕ → Type 0
Without s xs = All (λ x. x ≢ s) xs

-- no member stands twice
abbrev pub Distinct : List ℕ → Type 0
Distinct [] = Unit {0}
Distinct (x ∷ xs) = Without x xs × Distinct xs

-- the last member, a where there is none
abbrev pub final : ℕ → List ℕ → ℕ
final a [] = a
final a (x ∷ xs) = final x xs

-- the numbers s, s + 1, ..: n of them
abbrev pub from : ℕ → ℕ → List ℕ
from s zero = []
from s (suc n) = s ∷ from (s + 1) n

-- the sum of g over the members
abbrev pub sum : {A : Type 0} → (A → ℕ) → List A → ℕ
sum g [] = 0
sum g (x ∷ xs) = g x + sum g xs

-- 1 where the two are equal, else 0
abbrev pub one : ℕ → ℕ → ℕ
one a b = cond (eqb a b) 1 0

-- how often s stands in the list
abbrev pub times : ℕ → List ℕ → ℕ
times s xs = sum (λ x. one x s) xs
