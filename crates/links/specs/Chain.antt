-- Chains of links through a function `n`, which says what comes after each place.
use Rattle.std.specs.Prelude.{◌≡◌, ℕ, ◌<◌, List, [], ◌∷◌, slice_index}
use Rattle.numbers.specs.Marks.{NONE}

-- the cells of a table as a function
abbrev pub cells : List ℕ → ℕ → ℕ
cells t k = slice_index t k

-- from f through the members to NONE, each a place below `size`
abbrev pub Chain : (size : ℕ) → (n : ℕ → ℕ) → ℕ → List ℕ → Type 0
Chain size n f [] = f ≡ NONE
Chain size n f (x ∷ xs) = (f ≡ x) × (x < size) × Chain size n (n x) xs

-- what a walk from f knows that passed `passed` and stopped at `at`: they are the whole chain if it stopped at NONE, and it did so if there is a chain
pub record Walked (size : ℕ) (n : ℕ → ℕ) (f : ℕ) (passed : List ℕ) (at : ℕ) : Type 0 where
  pub ends : at ≡ NONE → Chain size n f passed
  pub whole : (xs : List ℕ) → Chain size n f xs → (at ≡ NONE) × (xs ≡ passed)
