-- Some levels are done and the others are left; it ends since each turn leaves fewer slots.
use mathlib.Core.List.{List}
use Rattle.levels.specs.Levels.{Level}
use Rattle.levels.specs.Held.{Held}
use Rattle.levels.specs.Slices.{lent, SameLevels}
use Rattle.buckets_regroup.specs.Change.{changed}
use Rattle.buckets_regroup.proofs.Turns.{Midway}
use Rattle.buckets_regroup.proofs.Remaining.{remaining}
use Rattle.buckets_regroup.proofs.sound.regroup.Given as goal

abbrev pub invariant-loop-number : goal.invariant-loop-number
invariant-loop-number l =
    SameLevels l.initial.levels l.levels
    × ((ls : List Level) → Held (lent l.initial.levels) l.initial.records ls → Midway (changed l.change) ls (lent l.levels) l.records l.last.0 l.number)

abbrev pub decreases-loop-number : goal.decreases-loop-number
decreases-loop-number l =
    remaining l.levels.freqs.now l.levels.buckets.now l.number
