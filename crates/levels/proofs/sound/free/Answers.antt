-- Three stores.
use Rattle.levels.proofs.Steps as laws
use Rattle.levels.proofs.sound.free.Goals as goal

pub returns : goal.returns
returns c = laws.freed _ _ _ _ c.requires.0 c.requires.1
