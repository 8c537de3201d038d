-- Checked, then done on sound tables; or refused by the check, with nothing changed.
use Rattle.std.proofs.Common.{rules}
use Rattle.ledger.specs.BucketCalls.{calls, SetEpoch}
use Rattle.buckets_tables.proofs.Public as public
use Rattle.frequency_buckets_epochs.proofs.set_epoch.Goals as goal

pub returns : goal.returns
unfolding calls
returns c = public.makes _ _ _ c.check.ensures (SetEpoch _) _ _ _ _ c.in_ok-check.was (c.set_epoch.ensures _)

pub returns-in_err-check : goal.returns-in_err-check
returns-in_err-check c = public.refuses _ _ _ c.check.ensures _ _ _ c.in_err-check.was (search rules)
