-- Each pair of items is one insert more, and the count takes in its answer.
use Rattle.std.specs.Iterator.Adapters.{zip_first, zip_second}
use Rattle.std.specs.Slice.Iter.{iter_rest}
use Rattle.buckets_tables.specs.Slices.{Same}
use Rattle.cache_tables.specs.Slices.{lent}
use Rattle.lfu_batches.specs.Batches.{pairs}
use Rattle.lfu_batches.proofs.Batching.{Batching, inserts}
use Rattle.lfu_batches.proofs.sound.insert_batch.Given as goal

abbrev pub invariant-loop-item : goal.invariant-loop-item
invariant-loop-item l =
    Same l.initial.guests l.guests l.initial.levels l.levels ×
    Batching inserts (pairs l.items l.given) (pairs (iter_rest (zip_first l.item-iterator)) (iter_rest (zip_second l.item-iterator)))
    (lent l.initial.guests l.initial.epochs l.initial.levels l.initial.values) l.initial.state l.done (lent l.guests l.epochs l.levels l.values) l.state
