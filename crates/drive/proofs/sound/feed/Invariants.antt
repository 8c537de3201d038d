-- Record by record, while there is room to print.
use Prim.Native.Nat.{◌-◌}
use Rattle.buckets_tables.specs.Slices.{Same}
use Rattle.cache_tables.specs.Slices.{lent}
use Rattle.drive.proofs.Turning.{Feeding}
use Rattle.drive.proofs.sound.feed.Given as goal

abbrev pub invariant-loop-next : goal.invariant-loop-next
invariant-loop-next l =
    Same l.initial.guests l.guests l.initial.levels l.levels
    × Feeding l.input l.from l.end l.initial.items l.initial.out (lent l.initial.guests l.initial.epochs l.initial.levels l.initial.values) l.initial.state l.items (lent l.guests l.epochs l.levels l.values) l.state l.out l.at l.next

abbrev pub decreases-loop-next : goal.decreases-loop-next
decreases-loop-next l = l.end - l.next
