-- Key by key: those so far and those to come are all of them.
use Rattle.drive_buckets.proofs.Keys.{Filling}
use Rattle.drive_buckets.proofs.batches.fill.Given as goal

abbrev pub invariant-loop-item : goal.invariant-loop-item
invariant-loop-item l = Filling l.first l.initial.items l.items l.key l.item-index
