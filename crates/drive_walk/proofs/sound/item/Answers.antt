-- The three numbers, one behind another.
use Rattle.drive_walk.proofs.Items.{item_spelled}
use Rattle.drive_walk.proofs.sound.item.Goals as goal

pub returns : goal.returns
returns c = item_spelled _ _ _ _ _ _ _ _ _ _ _ c.spaced-second.ensures c.coloned-third.ensures c.coloned.ensures
