-- The numbers that a caller may get, as document 01's table has them.
use Rattle.std.specs.Prelude.{ℕ}
use Rattle.numbers.specs.declared.Refusal.{Refusal}
use Rattle.numbers.specs.declared.Refusal.TheVariants.{Absent, Present, Full, Empty, Corrupt, Short, Capacity}

abbrev pub DONE : ℕ
DONE = 0

abbrev pub number_of : Refusal → ℕ
number_of Absent = 1
number_of Present = 2
number_of Full = 3
number_of Empty = 4
number_of Corrupt = 5
number_of Short = 6
number_of Capacity = 7
