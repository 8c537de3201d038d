-- Checked, then told by the links.
use Rattle.std.proofs.Common.{rules}
use Rattle.ledger.specs.BucketCalls.{asks, WalkStep}
use Rattle.buckets_tables.proofs.Public as public
use Rattle.frequency_buckets_queries.proofs.walk.step.Goals as goal

pub walk_step-requires : goal.walk_step-requires
walk_step-requires c = (_, _, _, _, _, _, public.checked _ _ _ c.check.ensures _ c.in_ok-check.was)

pub returns : goal.returns
unfolding asks
returns c = public.answers _ _ _ c.check.ensures (WalkStep _) _ _ c.in_ok-check.was (c.walk_step.ensures _ _ _ _ _ _)

pub returns-in_err-check : goal.returns-in_err-check
returns-in_err-check c = public.refuses _ _ _ c.check.ensures _ _ _ c.in_err-check.was (search rules)
