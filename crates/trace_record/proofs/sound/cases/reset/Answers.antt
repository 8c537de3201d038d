-- The call's promise, and the line of its answer.
use Rattle.trace_record.proofs.Telling.{reset_tells}
use Rattle.trace_record.proofs.sound.cases.reset.Goals as goal

pub returns-clause-does : goal.returns-clause-does
returns-clause-does c = λ b. reset_tells _ _ _ _ _ _ c.reset_frequency.result c.of_level.ensures (c.reset_frequency.ensures.does b)
