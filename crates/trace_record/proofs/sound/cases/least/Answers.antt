-- The call's promise, and the line of its answer.
use Rattle.trace_record.proofs.Telling.{least_tells}
use Rattle.trace_record.proofs.sound.cases.least.Goals as goal

pub returns : goal.returns
returns c = λ f e p n a i sp. least_tells _ _ _ c.peek_lfu.result c.of_least.ensures (c.peek_lfu.ensures f e p n a i sp)
