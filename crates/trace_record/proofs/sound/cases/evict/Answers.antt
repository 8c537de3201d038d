-- The call's promise, and the line of its answer.
use Rattle.trace_record.proofs.Telling.{evict_tells}
use Rattle.trace_record.proofs.sound.cases.evict.Goals as goal

pub returns-clause-does : goal.returns-clause-does
returns-clause-does c = evict_tells _ _ _ _ _ c.evict_min_freq.result c.of_least.ensures c.evict_min_freq.ensures.does
