-- Checked, then told by the state.
use Rattle.std.proofs.Common.{rules}
use Rattle.ledger.specs.BucketCalls.{asks, MinFreq}
use Rattle.buckets_tables.proofs.Public as public
use Rattle.frequency_buckets_queries.proofs.min_freq.Goals as goal

pub returns : goal.returns
unfolding asks
returns c = public.answers _ _ _ c.check.ensures MinFreq _ _ c.in_ok-check.was (c.min_freq.ensures _)

pub returns-in_err-check : goal.returns-in_err-check
returns-in_err-check c = public.refuses _ _ _ c.check.ensures _ _ _ c.in_err-check.was (search rules)
