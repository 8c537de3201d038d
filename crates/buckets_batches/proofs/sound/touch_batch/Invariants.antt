-- Each item is one touch more, and the count takes in its answer; whatever the arena, which is not lent.
use Rattle.std.proofs.Common.{ℕ, ◌≤◌, List}
use Rattle.numbers.specs.Frequency.{CEILING}
use Rattle.ledger.specs.Buckets.{touch}
use Rattle.levels.specs.Slices.{lent, SameLevels}
use Rattle.buckets_calls.specs.Calls.{with}
use Rattle.buckets_batches.proofs.Batching.{Batching}
use Rattle.buckets_batches.proofs.sound.touch_batch.Given as goal

abbrev pub invariant-loop-item : goal.invariant-loop-item
invariant-loop-item l =
    SameLevels l.initial.levels l.levels
    × (l.done ≤ l.item-index)
    × ((arena : List ℕ) → Batching (touch CEILING) l.items (with l.keys l.index l.initial.epochs (lent l.initial.levels) arena) l.initial.state l.item-index l.done
    (with l.keys l.index l.epochs (lent l.levels) arena) l.state)
