-- Record by record.
use Prim.Native.Nat.{◌-◌}
use Rattle.buckets_tables.specs.Slices.{Same}
use Rattle.cache_tables.specs.Slices.{lent}
use Rattle.trace_input.proofs.Feeding.{Feeding}
use Rattle.trace_input.proofs.sound.feed.Given as goal

abbrev pub invariant-loop-next : goal.invariant-loop-next
invariant-loop-next l =
    Same l.initial.guests l.guests l.initial.levels l.levels
    × Feeding (lent l.initial.guests l.initial.epochs l.initial.levels l.initial.values) l.initial.state l.input l.n (lent l.guests l.epochs l.levels l.values) l.state l.out l.at l.next

abbrev pub decreases-loop-next : goal.decreases-loop-next
decreases-loop-next l = l.n - l.next
