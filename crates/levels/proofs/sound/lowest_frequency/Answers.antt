-- The frequency of the lowest record, if there is one.
use Rattle.levels.proofs.Answers as laws
use Rattle.levels.proofs.sound.lowest_frequency.Goals as goal

pub returns-then-number-eq-NONE : goal.returns-then-number-eq-NONE
returns-then-number-eq-NONE c = laws.low_no_frequency _ _ c.if-number-eq-NONE.true

pub frequency-requires : goal.frequency-requires
frequency-requires c = laws.low_in _ _ c.requires c.if-number-eq-NONE.false

pub returns : goal.returns
returns c = laws.low_frequency _ _ _ c.if-number-eq-NONE.false c.frequency.ensures
