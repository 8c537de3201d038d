-- One call where there is something to run on.
use Rattle.std.proofs.Common.{refl, rules}
use Rattle.inputs.proofs.named.Goals as goal

pub returns-then-eq-clause-ran : goal.returns-then-eq-clause-ran
returns-then-eq-clause-ran g c = (c.args.run.now, c.args.input.now, refl, search rules)

pub returns-in-Some-clause-ran : goal.returns-in-Some-clause-ran
returns-in-Some-clause-ran g c = (c.args.run.now, c.as_raw_fd-source.result, refl, search rules)
