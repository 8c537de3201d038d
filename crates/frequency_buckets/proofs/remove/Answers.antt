-- Checked, then done on sound tables; or refused by the check, with nothing changed.
use Rattle.std.proofs.Common.{rules}
use Rattle.ledger.specs.BucketCalls.{calls, Remove}
use Rattle.buckets_tables.proofs.Public as public
use Rattle.frequency_buckets.proofs.remove.Goals as goal

pub remove-requires : goal.remove-requires
remove-requires c = public.checked _ _ _ c.check.ensures _ c.in_ok-check.was

pub returns-clause-does : goal.returns-clause-does
unfolding calls
returns-clause-does c = public.makes _ _ _ c.check.ensures (Remove _) _ _ _ _ c.in_ok-check.was c.remove.ensures.does

pub returns-in_err-check-clause-does : goal.returns-in_err-check-clause-does
returns-in_err-check-clause-does c = public.refuses _ _ _ c.check.ensures _ _ _ c.in_err-check.was (search rules)
