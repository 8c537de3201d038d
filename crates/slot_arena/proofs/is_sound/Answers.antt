-- Each test that fails says no; the counts decide what is left.
use native.Mathlib.Omega.{arith}
use Rattle.slot_arena.proofs.Check.{counts_fit, counts}
use Rattle.slot_arena.proofs.is_sound.Goals as goal

pub overflow_add-result : goal.overflow_add-result
overflow_add-result c =
    omega (arith, c.count_used.ensures, counts_fit _ c.args.order _ c.walk-w.ensures c.if-capacity-gt-LIMIT.false c.if-w-order.true.0)

pub returns-then-w-order : goal.returns-then-w-order
returns-then-w-order c =
    counts _ _ _ c.walk-w.ensures _ c.if-capacity-gt-LIMIT.false c.if-w-order.true.0 c.if-w-order.true.1 c.count_used.ensures
