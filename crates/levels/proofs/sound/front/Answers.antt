-- The slot moves inside its line, and the other lines stay.
use Rattle.levels.proofs.Steps as laws
use Rattle.levels.proofs.sound.front.Goals as goal

pub returns : goal.returns
returns c = laws.fronts _ _ _ _ _ _ c.ends-ends.ensures _ _ _ c.to_front-moved.ensures _ c.set_ends.ensures
