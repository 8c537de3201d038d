-- By the test.
use native.Mathlib.Omega.{arith}
use borrow.Author.Tests.{eq-eqb, ne_eqb}
use Rattle.drive_record.proofs.surplus.Goals as goal

pub returns-then-code-eq66 : goal.returns-then-code-eq66
returns-then-code-eq66 c = (rw (eq-eqb c.args.code 66 c.if-code-eq66.true), omega arith)

pub returns : goal.returns
returns c = (rw (ne_eqb c.args.code 66 c.if-code-eq66.false), omega arith)
