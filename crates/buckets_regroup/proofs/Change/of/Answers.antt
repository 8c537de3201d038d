-- By the kind of change.
use native.Mathlib.Omega.{arith}
use Rattle.buckets_regroup.proofs.Change.of.Goals as goal

pub returns-then-frequency-n : goal.returns-then-frequency-n
returns-then-frequency-n c = rw c.in-Lowered.is (omega arith)

pub returns-in-Halved : goal.returns-in-Halved
returns-in-Halved c = rw c.in-Halved.is c.halved_times.ensures

pub returns-else-frequency-n : goal.returns-else-frequency-n
returns-else-frequency-n c = rw c.in-Lowered.is (omega arith)
