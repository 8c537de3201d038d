-- Checked, then done on sound tables; or refused by the check, with nothing changed.
use Rattle.std.proofs.Common.{rules}
use Rattle.ledger.specs.BucketCalls.{calls, SetEntryEpoch}
use Rattle.buckets_reads.proofs.Asking as asking
use Rattle.buckets_tables.proofs.Public as public
use Rattle.frequency_buckets_epochs.proofs.set_entry_epoch.Goals as goal

pub set_entry_epoch-requires : goal.set_entry_epoch-requires
set_entry_epoch-requires c = asking.with_epochs _ _ _ _ _ _ _ _ _ _ (public.checked _ _ _ c.check.ensures _ c.in_ok-check.was)

pub returns : goal.returns
unfolding calls
returns c = public.makes _ _ _ c.check.ensures (SetEntryEpoch _ _) _ _ _ _ c.in_ok-check.was (c.set_entry_epoch.ensures _ _ _ _ _ _ _)

pub returns-in_err-check : goal.returns-in_err-check
returns-in_err-check c = public.refuses _ _ _ c.check.ensures _ _ _ c.in_err-check.was (search rules)
