-- Records are carried out and what they print is written; or the input goes on.
use mathlib.Core.Path.{sym}
use native.Mathlib.Omega.{arith}
use lib.Seq.{length-take-le}
use Rattle.drive.proofs.Turning.{turned_waits, turned_served}
use Rattle.drive.proofs.sound.turn.Goals as goal

pub overflow_sub-end : goal.overflow_sub-end
overflow_sub-end c = let begun = c.requires.begun in omega arith

pub onward-requires : goal.onward-requires
onward-requires c = (c.requires.begun, c.requires.part, c.requires.reads)

pub returns-then-end-from-lt-RECORD-clause-does : goal.returns-then-end-from-lt-RECORD-clause-does
returns-then-end-from-lt-RECORD-clause-does c = turned_waits _ _ _ _ _ c.requires _ _ c.if-end-from-lt-RECORD.true _ c.onward.auto.input _ c.onward.ensures

pub feed-fed-requires : goal.feed-fed-requires
feed-fed-requires c = c.requires

pub slice_bounds-write_all-end : goal.slice_bounds-write_all-end
slice_bounds-write_all-end c = c.feed-fed.ensures.does.room

pub slice_bounds-write_all-end-2 : goal.slice_bounds-write_all-end-2
slice_bounds-write_all-end-2 c =
    sym (length-take-le c.feed-fed.result.at c.feed-fed.new.out c.feed-fed.ensures.does.room)

pub returns-clause-does : goal.returns-clause-does
returns-clause-does c =
    let begun = c.requires.begun in let more = c.if-end-from-lt-RECORD.false in turned_served _ _ _ _ _ c.requires _ _ (omega arith) _ _ _ _ c.feed-fed.result _ c.feed-fed.ensures.does c.feed-fed.auto.items c.feed-fed.auto.out
