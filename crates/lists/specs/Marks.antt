-- Counting the numbers below n that have a mark.
use Rattle.std.specs.Prelude.{Bool, cond, ℕ, zero, suc, ◌+◌}

-- the sum of g over the numbers below n
abbrev pub total : (ℕ → ℕ) → ℕ → ℕ
total g zero = 0
total g (suc n) = total g n + g n

-- 1 for a mark, 0 for none
abbrev pub mark : Bool → ℕ
mark b = cond b 1 0

-- how many numbers below n have the mark
abbrev pub count : (ℕ → Bool) → ℕ → ℕ
count p n = total (λ k. mark (p k)) n
