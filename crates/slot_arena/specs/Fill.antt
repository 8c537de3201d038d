-- The cells of a freshly filled table.
use Rattle.std.specs.Prelude.{cond, ℕ, ◌+◌, ltb}
use Rattle.numbers.specs.Marks.{NONE}

-- each slot links to the next one, the last to NONE
abbrev pub filled_cell : (size i : ℕ) → ℕ
filled_cell size i = cond (ltb (i + 1) size) (i + 1) NONE
