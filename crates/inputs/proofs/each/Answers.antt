-- Standard input alone is one run; what an argument names is added to those before.
use Rattle.std.proofs.Common.{◌≡◌, rules, subst, pos}
use Rattle.inputs.specs.Running.{Runs}
use Rattle.inputs.proofs.Running.{runs_add}
use Rattle.inputs.proofs.each.Goals as goal

pub returns-in-Err-NotPresent : goal.returns-in-Err-NotPresent
returns-in-Err-NotPresent g c =
    let none : c.loop-number.ran ≡ 0 = search rules in
    (c.loop-number.run, pos 0, subst (λ k. Runs (goal.F-step g) c.args.run.now k c.loop-number.run) none c.loop-number.invariant.1, search rules)

pub loop-number-preserved : goal.loop-number-preserved
loop-number-preserved g c = (
  c.named-ran.ensures.called,
  runs_add (goal.F-step g) _ c.loop-number.run _ _ c.named-ran.result c.loop-number.invariant.1 c.named-ran.ensures.ran,
  search rules,
)
