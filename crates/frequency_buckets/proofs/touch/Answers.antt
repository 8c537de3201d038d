-- Checked, then done on sound tables; or refused by the check, with nothing changed.
use Rattle.std.proofs.Common.{rules}
use Rattle.ledger.specs.BucketCalls.{calls, Touch}
use Rattle.buckets_tables.proofs.Public as public
use Rattle.frequency_buckets.proofs.touch.Goals as goal

pub touch-requires : goal.touch-requires
touch-requires c = (_, public.checked _ _ _ c.check.ensures _ c.in_ok-check.was)

pub returns-clause-does : goal.returns-clause-does
unfolding calls
returns-clause-does c = public.makes _ _ _ c.check.ensures (Touch _ _) _ _ _ _ c.in_ok-check.was (c.touch.ensures.does _)

pub returns-in_err-check-clause-does : goal.returns-in_err-check-clause-does
returns-in_err-check-clause-does c = public.refuses _ _ _ c.check.ensures _ _ _ c.in_err-check.was (search rules)
