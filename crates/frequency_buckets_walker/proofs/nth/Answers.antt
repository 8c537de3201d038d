-- One place on for each step; a walker that has answered a refusal is where it would be after all of them.
use Rattle.std.proofs.Common.{sym, ◌∙◌}
use Rattle.frequency_buckets_walker.proofs.Places as laws
use Rattle.frequency_buckets_walker.proofs.nth.Goals as goal

pub loop-init : goal.loop-init
loop-init c = laws.nth_start _ _ _ _ c.first-at.ensures

pub returns-then-is_err : goal.returns-then-is_err
returns-then-is_err c =
    laws.nth_refused _ _ _ _ _ _ c.loop.auto.counter-end (sym c.is_err.ensures.value ∙ c.if-is_err.true) c.loop.invariant

pub onward-at-requires : goal.onward-at-requires
onward-at-requires c =
    laws.nth_linked _ _ _ _ _ _ _ _ _ _ _ _ _ (sym c.is_err.ensures.value ∙ c.if-is_err.false) c.loop.invariant

pub loop-preserved : goal.loop-preserved
loop-preserved c =
    laws.nth_more _ _ _ _ _ _ _ _ _ _ _ _ _ _ (sym c.is_err.ensures.value ∙ c.if-is_err.false) c.loop.invariant c.onward-at.ensures.steps
