-- Each turn writes the item that the reader stands at; what is left is shown from there on.
use Rattle.std.proofs.Common.{◌-◌, length}
use Rattle.drive_walk.proofs.Items.{Written}
use Rattle.drive_walk.proofs.sound.items.Given as goal

abbrev pub invariant-loop-done : goal.invariant-loop-done
invariant-loop-done l = Written l.keys l.epochs l.nexts l.initial.stand l.initial.out l.at l.out l.stand l.end (length l.keys - l._done)
