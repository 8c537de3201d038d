-- The lines passed are the beginning of all lines; the walk ends since the frequencies rise.
use Rattle.bucket_table.proofs.Places.{rise}
use Rattle.levels.proofs.Checks as laws
use Rattle.levels.proofs.walk_levels.Given as goal

abbrev pub invariant-loop-number : goal.invariant-loop-number
invariant-loop-number l = laws.Climb l.freqs l.prevs l.nexts l.buckets l.state l.bound l.number l.left

abbrev pub decreases-loop-number : goal.decreases-loop-number
decreases-loop-number l = rise l.buckets l.number
