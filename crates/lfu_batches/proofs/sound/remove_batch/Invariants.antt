-- Each item is one removal more, and the count takes in its answer.
use Rattle.std.proofs.Common.{drop}
use Rattle.buckets_tables.specs.Slices.{Same}
use Rattle.cache_tables.specs.Slices.{lent}
use Rattle.lfu_batches.proofs.Batching.{Batching, removes}
use Rattle.lfu_batches.proofs.sound.remove_batch.Given as goal

abbrev pub invariant-loop-item : goal.invariant-loop-item
invariant-loop-item l =
    Same l.initial.guests l.guests l.initial.levels l.levels ×
    Batching removes l.items (drop l.item-index l.items) (lent l.initial.guests l.initial.epochs l.initial.levels l.initial.values) l.initial.state l.done
    (lent l.guests l.epochs l.levels l.values) l.state
