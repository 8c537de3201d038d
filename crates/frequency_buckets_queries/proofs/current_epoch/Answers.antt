-- Checked, then told by the state.
use Rattle.std.proofs.Common.{rules}
use Rattle.ledger.specs.BucketCalls.{asks, CurrentEpoch}
use Rattle.buckets_tables.proofs.Public as public
use Rattle.frequency_buckets_queries.proofs.current_epoch.Goals as goal

pub returns : goal.returns
unfolding asks
returns c = public.answers _ _ _ c.check.ensures CurrentEpoch _ _ c.in_ok-check.was (c.current_epoch.ensures _)

pub returns-in_err-check : goal.returns-in_err-check
returns-in_err-check c = public.refuses _ _ _ c.check.ensures _ _ _ c.in_err-check.was (search rules)
