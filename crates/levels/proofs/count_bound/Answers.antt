-- The slots passed are counted.
use native.Mathlib.Omega.{arith}
use Rattle.lists.proofs.Pigeonhole.{count_le}
use Rattle.levels.specs.Check.{taken}
use Rattle.levels.proofs.count_bound.Goals as goal

pub overflow_add-bound : goal.overflow_add-bound
overflow_add-bound c = let e = c.loop-s.invariant in omega (arith, count_le (taken c.args.nexts.now) c.loop-s.s)
