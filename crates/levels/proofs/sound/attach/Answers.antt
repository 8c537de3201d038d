-- The slot comes to the front of the line's list, and the other lines stay.
use Rattle.levels.proofs.Steps as laws
use Rattle.levels.proofs.sound.attach.Goals as goal

pub returns : goal.returns
returns c =
    laws.attaches _ _ _ _ _ _ _ c.requires _ c.ends-ends.ensures _ _ _ c.push_front-more.ensures _ _ c.set_ends.ensures c.set_owner.ensures
