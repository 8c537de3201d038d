-- The tail of the lowest record, if there is one.
use Rattle.levels.proofs.Answers as laws
use Rattle.levels.proofs.sound.lowest.Goals as goal

pub returns-then-number-eq-NONE : goal.returns-then-number-eq-NONE
returns-then-number-eq-NONE c = laws.low_none _ _ c.if-number-eq-NONE.true

pub ends-ends-requires : goal.ends-ends-requires
ends-ends-requires c = laws.low_in _ _ c.requires c.if-number-eq-NONE.false

pub returns : goal.returns
returns c = laws.low_tail _ _ _ c.if-number-eq-NONE.false c.ends-ends.ensures.1
