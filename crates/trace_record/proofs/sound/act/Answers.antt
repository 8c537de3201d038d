-- The operation byte names the call of its arm; where it names none, the cache stays.
use mathlib.Core.Path.{refl}
use native.Mathlib.Omega.{arith}
use Rattle.trace_record.proofs.Telling.{guests_shown, tables_shown, acted, acted_none}
use Rattle.trace_record.proofs.sound.act.Goals as goal

pub returns-in-1-clause-does : goal.returns-in-1-clause-does
returns-in-1-clause-does c = acted _ _ _ _ _ _ _ _ 1 c.in-1.is c.insert.ensures.does

pub returns-in-2-clause-does : goal.returns-in-2-clause-does
returns-in-2-clause-does c = acted _ _ _ _ _ _ _ _ 2 c.in-2.is (guests_shown _ _ _ c.shown-shown.ensures _ _ _ _ _ _ _ _ (c.get.ensures.does _))

pub returns-in-3-clause-does : goal.returns-in-3-clause-does
returns-in-3-clause-does c = acted _ _ _ _ _ _ _ _ 3 c.in-3.is (guests_shown _ _ _ c.shown-shown-in-3.ensures _ _ _ _ _ _ _ _ (c.peek.ensures _ _ _ _ _ _ _ _))

pub returns-in-4-clause-does : goal.returns-in-4-clause-does
returns-in-4-clause-does c = acted _ _ _ _ _ _ _ _ 4 c.in-4.is c.remove.ensures.does

pub returns-in-5-clause-does : goal.returns-in-5-clause-does
returns-in-5-clause-does c = acted _ _ _ _ _ _ _ _ 5 c.in-5.is (tables_shown _ _ _ c.shown.ensures _ _ _ _ _ _ c.shown-in-5.ensures (c.least.ensures _ _ _ _ _ _ _))

pub returns-in-6-clause-does : goal.returns-in-6-clause-does
returns-in-6-clause-does c = acted _ _ _ _ _ _ _ _ 6 c.in-6.is (guests_shown _ _ _ c.shown-shown-in-6.ensures _ _ _ _ _ _ _ _ (c.reset.ensures.does (c.shown-shown-in-6.result.arena.now, c.args.values.now)))

pub returns-in-7-clause-does : goal.returns-in-7-clause-does
returns-in-7-clause-does c = acted _ _ _ _ _ _ _ _ 7 c.in-7.is (c.clear.ensures.does _)

pub returns-in-8-clause-does : goal.returns-in-8-clause-does
returns-in-8-clause-does c = acted _ _ _ _ _ _ _ _ 8 c.in-8.is c.evict.ensures.does

pub returns-in-9-to-255-clause-does : goal.returns-in-9-to-255-clause-does
returns-in-9-to-255-clause-does c = acted_none _ _ _ _ _ _ (λ a b. omega arith) refl

pub returns-in-0-clause-does : goal.returns-in-0-clause-does
returns-in-0-clause-does c = let is = c.in-0.is in acted_none _ _ _ _ _ _ (λ a b. omega arith) refl
