-- The check says that the tables hold a ledger, or why not; on sound tables the plain start answers.
use Rattle.std.proofs.Common.{rules}
use Rattle.frequency_buckets_walker.proofs.Answers as laws
use Rattle.frequency_buckets_walker.proofs.plain.head.Goals as goal

pub returns-in_err-check : goal.returns-in_err-check
returns-in_err-check c = laws.head_refused _ _ _ _ c.check.ensures _ c.in_err-check.was _ (search rules)

pub returns : goal.returns
returns c = laws.head_done _ _ _ _ c.check.ensures _ c.in_ok-check.was _ c.walk_start.ensures _ c.of_step.ensures
