-- The count of the list that `level_ends` finds.
use Rattle.levels.proofs.Answers.{counts}
use Rattle.levels.proofs.sound.count.Goals as goal

pub returns : goal.returns
returns c = counts _ _ _ _ c.level_ends-ends.ensures
