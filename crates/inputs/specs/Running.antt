-- What is said of running on inputs: how often it was done. On what, and how often it is to be done, no contract can say, since none says what an
-- argument or a file is.
use Rattle.std.specs.Prelude.{◌≡◌, ℕ, ℤ, zero, suc}

-- so many calls, one after another, each on some descriptor, take f to f'
abbrev pub Runs : {F : Type 0} → (step : F → ℤ → Unit {0} → F → Type 0) → F → ℕ → F → Type 0
Runs step f zero f' = f' ≡ f
Runs {F} step f (suc n) f' = (g : F) × (input : ℤ) × Runs step f n g × step g input tt f'
