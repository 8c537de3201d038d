-- What was read fits, and so does what it prints.
use native.Mathlib.Omega.{arith}
use Rattle.trace.specs.Ends.{PART}
use Rattle.trace_input.proofs.Sizes.{read_fits}
use Rattle.replay.proofs.sound.turn.Goals as goal

pub part-at-requires : goal.part-at-requires
part-at-requires c =
    let fits = read_fits c.args.input.now c.read_full-read.new.buf PART c.read_full-read.result c.requires.1.reads c.read_full-read.auto.buf c.read_full-read.ensures.0 in (c.requires.0, fits.0, omega (arith, fits.1, c.requires.1.prints))

pub returns-clause-does : goal.returns-clause-does
returns-clause-does c =
    record { fits = (read_fits c.args.input.now c.read_full-read.new.buf PART c.read_full-read.result c.requires.1.reads c.read_full-read.auto.buf c.read_full-read.ensures.0).1; parts = c.part-at.ensures.does; goes_on = c.goes_on.ensures }
