-- The record is there or is made, and the slot comes to the front of its list.
use Rattle.levels.proofs.Enter as laws
use Rattle.levels.proofs.sound.enter.Goals as goal

pub ensure-number-requires : goal.ensure-number-requires
ensure-number-requires c = laws.opening _ _ _ _ _ _ _ _ c.requires

pub returns-clause-does : goal.returns-clause-does
returns-clause-does c = laws.enters _ _ _ _ _ _ _ _ _ _ _ _ _ c.ensure-number.ensures c.requires.slot _ _ _ _ c.attach.ensures
