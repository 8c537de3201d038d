-- So far it ran as often as is counted, at most once for each argument.
use Rattle.std.proofs.Common.{◌<◌}
use Rattle.inputs.specs.Running.{Runs}
use Rattle.inputs.proofs.each.Given as goal

abbrev pub invariant-loop-number : goal.invariant-loop-number
invariant-loop-number g l =
    goal.F-IsAlwaysCallable g l.run
    × Runs (goal.F-step g) l.fn.run l.ran l.run
    × (l.ran < l.number)
