-- The slots passed are counted.
use mathlib.Core.Path.{◌≡◌}
use Rattle.lists.specs.Marks.{count}
use Rattle.levels.specs.Check.{taken}
use Rattle.levels.proofs.count_bound.Given as goal

abbrev pub invariant-loop-s : goal.invariant-loop-s
invariant-loop-s l = l.bound ≡ count (taken l.nexts) l.s
