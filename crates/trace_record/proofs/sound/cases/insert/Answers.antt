-- The call's promise, and the line of its answer.
use Rattle.trace_record.proofs.Telling.{insert_tells}
use Rattle.trace_record.proofs.sound.cases.insert.Goals as goal

pub returns-clause-does : goal.returns-clause-does
returns-clause-does c = insert_tells _ _ _ _ _ _ _ c.insert.result c.of_insertion.ensures c.insert.ensures.does
