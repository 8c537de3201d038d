-- The line of one slot gets another frequency.
use Rattle.levels.proofs.Steps as laws
use Rattle.levels.proofs.sound.lift.Goals as goal

pub returns : goal.returns
returns c = laws.lifts _ _ _ _ _ c.requires.1 _ c.raise.ensures
