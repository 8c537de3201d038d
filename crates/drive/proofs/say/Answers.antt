-- A line fits into the buffer.
use lib.Seq.{length-take-le}
use native.Mathlib.Omega.{arith}
use mathlib.Core.Path.{sym}
use Rattle.drive.proofs.say.Goals as goal

pub slice_bounds-write_all-end : goal.slice_bounds-write_all-end
slice_bounds-write_all-end c =
    sym (length-take-le c.write-n.result c.write-n.new.out (omega (arith, c.write-n.ensures.short, c.write-n.auto.out)))
