-- The digits that the kit finds are copied.
use Rattle.trace.proofs.Writing.{number_spelled}
use Rattle.trace.proofs.sound.number.Goals as goal

pub returns : goal.returns
returns c =
    number_spelled _ _ _ _ _ _ _ c.ranges.n.fits c.decimal-k.ensures.in_bounds c.decimal-k.ensures.len c.decimal-k.ensures.digits c.put.ensures
