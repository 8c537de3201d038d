-- What writing into a lent buffer does: what stood before a place stays, and the bytes follow it.
use Rattle.std.specs.Prelude.{◌≡◌, List, ◌++◌, ℕ, ◌+◌, ◌≤◌, length, take}

-- the bytes are written from `at` to `r`
pub record Writes (out : List ℕ) (at : ℕ) (bytes out' : List ℕ) (r : ℕ) : Type 0 where
  pub next : r ≡ at + length bytes
  pub written : take r out' ≡ take at out ++ bytes

-- and there are at most so many
pub record Spells (out : List ℕ) (at : ℕ) (bytes : List ℕ) (most : ℕ) (out' : List ℕ) (r : ℕ) : Type 0 where
  pub writes : Writes out at bytes out' r
  pub short : r ≤ at + most
