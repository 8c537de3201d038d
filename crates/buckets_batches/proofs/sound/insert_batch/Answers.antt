-- Each item is one insert more, and the count takes in its answer.
use Rattle.std.proofs.Common.{rules, arith}
use Rattle.buckets_batches.proofs.Batching as laws
use Rattle.buckets_batches.proofs.sound.insert_batch.Goals as goal

pub loop-item-init : goal.loop-item-init
loop-item-init c = (search rules, omega arith, laws.batching_start _ _ _ _)

pub insert-answer-requires : goal.insert-answer-requires
insert-answer-requires c = laws.batching_sound _ _ _ _ _ _ _ _ c.loop-item.invariant.2 c.requires

pub loop-item-preserved : goal.loop-item-preserved
loop-item-preserved c =
    let few = c.loop-item.invariant.1 in
    let once = c.done_once-done.ensures.once in
    (search rules, omega arith, laws.batching_more _ _ _ _ _ _ _ _ c.loop-item.invariant.2 c.loop-item-test.true _ _ _ c.insert-answer.ensures.does _ (c.done_once-done.ensures.counts _))

pub returns-clause-does : goal.returns-clause-does
returns-clause-does c = laws.inserts_end _ _ _ _ _ _ _ c.loop-item-test.false c.loop-item.invariant.2
