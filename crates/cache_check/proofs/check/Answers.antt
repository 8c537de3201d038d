-- The lengths first, that of the values before the others; then the buckets' own check, and the values of the free slots.
use Rattle.std.proofs.Common.{rules, sym}
use Rattle.cache_check.proofs.Values as laws
use Rattle.cache_check.proofs.check.Goals as goal

pub returns-then-values-state : goal.returns-then-values-state
returns-then-values-state g c = laws.other_checks _ _ _ c.args.state c.if-values-state.true c.too_short.ensures

pub returns-in_err-check : goal.returns-in_err-check
returns-in_err-check g c = laws.below_refuses _ _ c.args.state c.if-values-state.false _ c.check.ensures _ c.in_err-check.was _ (search rules)

pub returns-then-not-values_allowed : goal.returns-then-not-values_allowed
returns-then-not-values_allowed g c =
    laws.values_refuse _ _ c.args.state c.if-values-state.false _ c.check.ensures _ c.in_ok-check.was _
    (rw (sym c.shown.ensures) c.values_allowed.ensures) c.if-not-values_allowed.true

pub returns : goal.returns
returns g c =
    laws.values_hold _ _ c.args.state c.if-values-state.false _ c.check.ensures _ c.in_ok-check.was _
    (rw (sym c.shown.ensures) c.values_allowed.ensures) c.if-not-values_allowed.false
