-- The head of the list that `level_ends` finds, if there is one.
use mathlib.Core.Path.{refl}
use Rattle.levels.proofs.Answers as laws
use Rattle.levels.proofs.sound.head.Goals as goal

pub returns-then-ends-eq-NONE : goal.returns-then-ends-eq-NONE
returns-then-ends-eq-NONE c = laws.head_none _ _ _ _ c.level_ends-ends.ensures c.if-ends-eq-NONE.true

pub returns : goal.returns
returns c = laws.head_some _ _ _ _ c.level_ends-ends.ensures _ refl c.if-ends-eq-NONE.false
