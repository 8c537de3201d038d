-- The words of a cleared index.
use Rattle.std.specs.Prelude.{cond, ℕ, ltb}
use Rattle.numbers.specs.Marks.{NONE}
use Rattle.key_index.specs.Index.{OUT}

-- each class is empty, each slot is out
abbrev pub cleared_cell : (half i : ℕ) → ℕ
cleared_cell half i = cond (ltb i half) NONE OUT
