-- With no item left the removals are done.
use Rattle.lfu_batches.proofs.Batching as laws
use Rattle.lfu_batches.proofs.sound.remove_batch.Goals as goal

pub returns-clause-does : goal.returns-clause-does
returns-clause-does c = laws.removes_end _ _ _ _ _ _ _ (laws.no_keys _ _ c.loop-item-test.false) c.loop-item.invariant.1
