-- Rings of links over functions: `n` says what comes next, `p` what came before.
use Rattle.std.specs.Prelude.{◌≡◌, ℕ, cond, List, [], ◌∷◌, ◌==◌}
use Rattle.numbers.specs.Marks.{NONE}

-- f, but v at i
unfoldable pub upd : (ℕ → ℕ) → ℕ → ℕ → ℕ → ℕ
upd f i v k = cond (k == i) v (f k)

-- a function with an end: e at NONE, f elsewhere
unfoldable pub look : (ℕ → ℕ) → ℕ → ℕ → ℕ
look f e k = cond (k == NONE) e (f k)

-- from a, through xs, to z: each step is there both ways
abbrev pub Links : (ℕ → ℕ) → (ℕ → ℕ) → ℕ → List ℕ → ℕ → Type 0
Links n p a [] z = (n a ≡ z) × (p z ≡ a)
Links n p a (x ∷ xs) z = (n a ≡ x) × (p x ≡ a) × Links n p x xs z
