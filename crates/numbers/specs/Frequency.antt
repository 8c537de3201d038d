-- The levels of a frequency: the first, the ceiling, and how a level changes.
use Rattle.std.specs.Prelude.{cond, ℕ, ◌+◌, ◌/◌, ◌^◌, max, ◌-◌, ltb}

abbrev pub FIRST : ℕ
FIRST = 1

abbrev pub CEILING : ℕ
CEILING = 2 ^ 64 - 1

-- a hit: one level up, unless the level is at or above the cap
abbrev pub raised : ℕ → ℕ → ℕ
raised cap f = cond (ltb f cap) (f + 1) f

-- a cap of 0 is read as 1
abbrev pub cap_of : ℕ → ℕ
cap_of cap = max cap FIRST

-- n halvings: f / 2^n rounded down, but at least the first level, which it is for n of 64 or more. What `let` names is computed only where it is
-- asked for, so that no larger power of 2 ever is.
abbrev pub halved_times : (n f : ℕ) → ℕ
halved_times n f = let halves = max (f / 2 ^ n) FIRST in cond (ltb n 64) halves FIRST
