-- The records passed are the beginning of all rows that there may be; `left` counts down.
use Rattle.bucket_table.proofs.Checks as laws
use Rattle.bucket_table.proofs.walk.Given as goal

abbrev pub invariant-loop-number : goal.invariant-loop-number
invariant-loop-number l = laws.Climb l.buckets l.spares l.state l.used l.number l.at l.low l.left

abbrev pub decreases-loop-number : goal.decreases-loop-number
decreases-loop-number l = l.left
