-- The rows passed are the beginning of all rows, none is above the frequency, and `counted` is what they have; it ends since the frequencies rise.
use Rattle.bucket_table.proofs.Places.{rise}
use Rattle.levels.proofs.Counting as laws
use Rattle.levels.proofs.sound.count_up_to.Given as goal

abbrev pub invariant-loop-number : goal.invariant-loop-number
invariant-loop-number l = laws.Counted l.buckets l.state l.frequency.0 l.number l.counted

abbrev pub decreases-loop-number : goal.decreases-loop-number
decreases-loop-number l = rise l.buckets l.number
