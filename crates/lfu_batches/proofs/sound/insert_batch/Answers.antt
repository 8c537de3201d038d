-- There are at most as many pairs as items, so the count fits; and with no pair left the inserts are done.
use Rattle.std.proofs.Common.{rules}
use Rattle.std.proofs.lemmas.Slice.Zip.{Zip-more, either_empty_from_Zip}
use Rattle.answers.specs.Replies.{insertion_reply}
use Rattle.lfu_batches.proofs.Batching as laws
use Rattle.lfu_batches.proofs.sound.insert_batch.Goals as goal

pub overflow_add-done : goal.overflow_add-done
overflow_add-done c =
    let next = laws.left_pairs _ _ _ _ _ _ (Zip-more c.loop-item.item-iterator c.next.new.self _ _ c.in-Some.is c.next.ensures.steps) in
    let few = laws.batching_few _ _ _ _ _ _ _ _ c.loop-item.invariant.1 _ _ next (insertion_reply c.insert-answer.result) in
    let all = laws.length_pairs c.args.items.now c.args.given.now in
    let is = c.bound_once-done.ensures in
    search rules

pub returns-clause-does : goal.returns-clause-does
returns-clause-does c =
    let none_left = laws.no_pairs _ _ (either_empty_from_Zip c.loop-item.item-iterator c.next.new.self _ c.in-None.is c.next.ensures.steps) in
    laws.inserts_end _ _ _ _ _ _ _ none_left c.loop-item.invariant.1
