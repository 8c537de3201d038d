-- Checked, then told by the lowest list.
use Rattle.std.proofs.Common.{rules}
use Rattle.ledger.specs.BucketCalls.{asks, PeekMin}
use Rattle.buckets_tables.proofs.Public as public
use Rattle.frequency_buckets_queries.proofs.peek_min.Goals as goal

pub returns : goal.returns
unfolding asks
returns c = public.answers _ _ _ c.check.ensures PeekMin _ _ c.in_ok-check.was (c.peek_min.ensures _ _ _ _ _ _)

pub returns-in_err-check : goal.returns-in_err-check
returns-in_err-check c = public.refuses _ _ _ c.check.ensures _ _ _ c.in_err-check.was (search rules)
