-- The slots passed are the beginning of the list, and each was tested; `n` counts down, and what it has lost at the end is the record's count.
use Rattle.levels.proofs.Walks as laws
use Rattle.levels.proofs.walk_list.Given as goal

abbrev pub invariant-loop-slot : goal.invariant-loop-slot
invariant-loop-slot l = laws.Along l.freqs l.prevs l.nexts l.buckets l.number l.left l.at l.slot l.n

abbrev pub decreases-loop-slot : goal.decreases-loop-slot
decreases-loop-slot l = l.n
