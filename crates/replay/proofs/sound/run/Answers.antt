-- Every turn leaves the tables sound.
use borrow.Author.Rules.{rules}
use Rattle.replay.proofs.Turning.{turn_sound}
use Rattle.replay.proofs.sound.run.Goals as goal

pub loop-preserved : goal.loop-preserved
loop-preserved c = (search rules, turn_sound _ _ _ _ _ _ _ c.turn-turned.ensures.does c.loop.invariant.1)
