-- The call's promise, and the line of its answer.
use Rattle.trace_record.proofs.Telling.{peek_tells}
use Rattle.trace_record.proofs.sound.cases.peek.Goals as goal

pub returns : goal.returns
returns c = λ f e p n a b sp s. peek_tells _ _ _ _ c.peek.result c.of_value.ensures (c.peek.ensures f e p n a b sp s)
