-- Record by record, while there is room to print.
use borrow.Author.Rules.{rules}
use mathlib.Core.Path.{refl, ◌∙◌}
use native.Mathlib.Omega.{arith}
use borrow.Author.Tests.{leb-true, leb-false}
use Rattle.drive.proofs.Turning.{feeding_start, feeding_room, feeding_more, left_none, feeding_end}
use Rattle.drive.proofs.sound.feed.Goals as goal

pub loop-next-init : goal.loop-next-init
loop-next-init c = (search rules, feeding_start _ _ _ _ _ _ _ c.requires.begun)

pub overflow_sub-end : goal.overflow_sub-end
overflow_sub-end c = let begun = c.loop-next.invariant.1.begun in omega arith

pub bounds-input-next : goal.bounds-input-next
bounds-input-next c =
    let begun = c.loop-next.invariant.1.begun in let test = c.loop-next-test.true in let part = c.requires.part in let all = c.requires.reads in omega arith

pub overflow_add-next : goal.overflow_add-next
overflow_add-next c =
    let begun = c.loop-next.invariant.1.begun in let test = c.loop-next-test.true in let part = c.requires.part in let all = c.requires.reads in omega arith

pub number-a-requires : goal.number-a-requires
number-a-requires c =
    let begun = c.loop-next.invariant.1.begun in let test = c.loop-next-test.true in let part = c.requires.part in let all = c.requires.reads in omega arith

pub overflow_add-next-in-loop-next : goal.overflow_add-next-in-loop-next
overflow_add-next-in-loop-next c =
    let begun = c.loop-next.invariant.1.begun in let test = c.loop-next-test.true in let part = c.requires.part in let all = c.requires.reads in omega arith

pub number-b-requires : goal.number-b-requires
number-b-requires c =
    let begun = c.loop-next.invariant.1.begun in let test = c.loop-next-test.true in let part = c.requires.part in let all = c.requires.reads in omega arith

pub step-at-requires : goal.step-at-requires
step-at-requires c =
    (c.loop-next.invariant.1.places ∙ c.requires.places, feeding_room _ _ _ _ _ _ _ _ _ _ _ _ _ c.loop-next.invariant.1 (leb-true _ _ c.if-at-le-LAST.true-raw) c.requires.prints)

pub overflow_add-next-in-loop-next-2 : goal.overflow_add-next-in-loop-next-2
overflow_add-next-in-loop-next-2 c =
    let begun = c.loop-next.invariant.1.begun in let test = c.loop-next-test.true in let part = c.requires.part in let all = c.requires.reads in omega arith

pub loop-next-smaller : goal.loop-next-smaller
loop-next-smaller c =
    let begun = c.loop-next.invariant.1.begun in let test = c.loop-next-test.true in let part = c.requires.part in let all = c.requires.reads in omega arith

pub loop-next-preserved : goal.loop-next-preserved
loop-next-preserved c =
    let begun = c.loop-next.invariant.1.begun in let test = c.loop-next-test.true in (search rules, feeding_more _ _ _ _ _ _ _ _ _ _ _ _ _ c.loop-next.invariant.1 (omega arith) (leb-true _ _ c.if-at-le-LAST.true-raw) _ _ _ refl c.number-a.ensures c.number-b.ensures _ _ _ _ _ c.step-at.ensures.does c.step-at.auto.items c.step-at.auto.out)

pub shape_of-items-else-at-le-LAST : goal.shape_of-items-else-at-le-LAST
shape_of-items-else-at-le-LAST c = c.loop-next.invariant.1.places

pub shape_of-out-else-at-le-LAST : goal.shape_of-out-else-at-le-LAST
shape_of-out-else-at-le-LAST c = c.loop-next.invariant.1.long

pub returns-else-at-le-LAST-clause-does : goal.returns-else-at-le-LAST-clause-does
returns-else-at-le-LAST-clause-does c =
    feeding_end _ _ _ _ _ _ _ _ _ _ _ _ _ c.loop-next.invariant.1 c.requires.prints (λ more. c.loop-next.invariant.1.moved (leb-false _ _ c.if-at-le-LAST.false-raw))

pub shape_of-items-after-loop-next : goal.shape_of-items-after-loop-next
shape_of-items-after-loop-next c = c.loop-next.invariant.1.places

pub shape_of-out-after-loop-next : goal.shape_of-out-after-loop-next
shape_of-out-after-loop-next c = c.loop-next.invariant.1.long

pub returns-after-loop-next-clause-does : goal.returns-after-loop-next-clause-does
returns-after-loop-next-clause-does c =
    feeding_end _ _ _ _ _ _ _ _ _ _ _ _ _ c.loop-next.invariant.1 c.requires.prints (left_none _ _ _ _ _ _ _ _ _ _ _ _ _ c.loop-next.invariant.1 (let left = c.loop-next-test.false in omega arith))
