-- A line fits into the buffer.
use lib.Seq.{length-take-le}
use native.Mathlib.Omega.{arith}
use mathlib.Core.Path.{sym}
use Rattle.first_steps.proofs.say.Goals as goal

pub slice_bounds-write_all-end : goal.slice_bounds-write_all-end
slice_bounds-write_all-end c =
    sym (length-take-le c.write-end.result c.write-end.new.out (omega (arith, c.write-end.ensures.short, c.write-end.auto.out)))
