-- Tables and buffers keep their lengths from turn to turn.
use Rattle.buckets_tables.specs.Slices.{Same}
use Rattle.drive.proofs.Turning.{Running}
use Rattle.drive.proofs.sound.run.Given as goal

abbrev pub invariant-loop : goal.invariant-loop
invariant-loop l = Same l.initial.guests l.guests l.initial.levels l.levels × Running l.items l.input l.next l.end l.out
