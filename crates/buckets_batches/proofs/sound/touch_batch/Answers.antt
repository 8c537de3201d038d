-- Each item is one touch more, and the count takes in its answer; whatever the arena, which is not lent.
use Rattle.std.proofs.Common.{rules, arith}
use Rattle.buckets_batches.proofs.Batching as laws
use Rattle.buckets_batches.proofs.sound.touch_batch.Goals as goal

pub loop-item-init : goal.loop-item-init
loop-item-init c = (search rules, omega arith, λ a. laws.batching_start _ _ _ _)

pub touch-answer-requires : goal.touch-answer-requires
touch-answer-requires c = let w = c.requires in (w.0, laws.batching_sound _ _ _ _ _ _ _ _ (c.loop-item.invariant.2 w.0) w.1)

pub loop-item-preserved : goal.loop-item-preserved
loop-item-preserved c =
    let few = c.loop-item.invariant.1 in
    let once = c.done_once-done.ensures.once in
    (search rules, omega arith, λ a. laws.batching_more _ _ _ _ _ _ _ _ (c.loop-item.invariant.2 a) c.loop-item-test.true _ _ _ (c.touch-answer.ensures.does a) _ (c.done_once-done.ensures.counts _))

pub returns-clause-does : goal.returns-clause-does
returns-clause-does c = λ a. laws.touches_end _ _ _ _ _ _ _ c.loop-item-test.false (c.loop-item.invariant.2 a)
