-- What is read is a part.
use mathlib.Core.Path.{sym}
use native.Mathlib.Omega.{arith}
use lib.Seq.{length-take-le}
use Rattle.trace_input.proofs.Sizes.{read_fits}
use Rattle.drive.specs.Turns.{DRIVE_PART}
use Rattle.drive.proofs.sound.onward.Goals as goal

pub slice_bounds-read_full-end-2 : goal.slice_bounds-read_full-end-2
slice_bounds-read_full-end-2 c = sym (length-take-le DRIVE_PART c.args.input.now c.requires.2)

pub returns : goal.returns
returns c =
    (omega arith, (read_fits c.args.input.now c.read_full.new.buf DRIVE_PART c.read_full.result c.requires.2 c.read_full.auto.buf c.read_full.ensures.0).1)
