-- The call's promise, and the line of its answer.
use Rattle.trace_record.proofs.Telling.{remove_tells}
use Rattle.trace_record.proofs.sound.cases.remove.Goals as goal

pub returns-clause-does : goal.returns-clause-does
returns-clause-does c = remove_tells _ _ _ _ _ _ c.remove.result c.of_value.ensures c.remove.ensures.does
