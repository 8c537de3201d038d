-- Record by record.
use borrow.Author.Rules.{rules}
use mathlib.Core.Path.{refl}
use native.Mathlib.Omega.{arith}
use Rattle.trace_input.proofs.Feeding.{feeding_start, feeding_more, feeding_end}
use Rattle.trace_input.proofs.sound.feed.Goals as goal

pub loop-next-init : goal.loop-next-init
loop-next-init c = (search rules, feeding_start _ _ _ _ _)

pub loop-next-preserved : goal.loop-next-preserved
loop-next-preserved c =
    let test = c.loop-next-test.true in
    (search rules, feeding_more _ _ _ _ _ _ _ _ _ c.loop-next.invariant.1 c.requires.0 (omega arith) c.requires.1 _ _ _ refl c.number.ensures c.number-in-loop-next.ensures _ _ _ _ c.step-at.ensures.does)

pub returns-clause-does : goal.returns-clause-does
returns-clause-does c = feeding_end _ _ _ _ _ _ _ _ _ c.loop-next.invariant.1 (let test = c.loop-next-test.false in omega arith)
