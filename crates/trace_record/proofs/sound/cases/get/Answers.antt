-- The call's promise, and the line of its answer.
use Rattle.trace_record.proofs.Telling.{get_tells}
use Rattle.trace_record.proofs.sound.cases.get.Goals as goal

pub returns-clause-does : goal.returns-clause-does
returns-clause-does c = λ a. get_tells _ _ _ _ _ _ c.get.result c.of_value.ensures (c.get.ensures.does a)
