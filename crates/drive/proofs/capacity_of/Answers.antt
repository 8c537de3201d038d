-- By whether there are two bytes.
use mathlib.Core.Path.{ap, ◌∙◌}
use native.Mathlib.Omega.{arith}
use Rattle.std.proofs.Common.{Some}
use Rattle.drive.proofs.Beginning.{too_few, both_read}
use Rattle.drive.proofs.capacity_of.Goals as goal

pub returns-then-first-lt2 : goal.returns-then-first-lt2
returns-then-first-lt2 c = too_few c.args.first.now (omega (arith, c.if-first-lt2.true))

pub returns : goal.returns
returns c = ap Some c.two_bytes.ensures ∙ both_read c.args.first.now (omega arith)
