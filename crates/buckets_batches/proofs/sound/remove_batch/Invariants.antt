-- Each item is one removal more, and the count takes in its answer.
use Rattle.std.proofs.Common.{◌≤◌}
use Rattle.ledger.specs.Buckets.{remove}
use Rattle.buckets_tables.specs.Slices.{lent, Same}
use Rattle.buckets_batches.proofs.Batching.{Batching}
use Rattle.buckets_batches.proofs.sound.remove_batch.Given as goal

abbrev pub invariant-loop-item : goal.invariant-loop-item
invariant-loop-item l =
    Same l.initial.guests l.guests l.initial.levels l.levels
    × (l.done ≤ l.item-index)
    × Batching remove l.items (lent l.initial.guests l.initial.epochs l.initial.levels) l.initial.state l.item-index l.done (lent l.guests l.epochs l.levels) l.state
