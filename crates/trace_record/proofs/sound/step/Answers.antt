-- The record is acted on, and its line written.
use Rattle.trace_record.proofs.Telling.{printed}
use Rattle.trace_record.proofs.sound.step.Goals as goal

pub returns-clause-does : goal.returns-clause-does
returns-clause-does c = printed _ _ _ _ _ _ _ _ _ _ c.act-line.ensures.does c.write.ensures
