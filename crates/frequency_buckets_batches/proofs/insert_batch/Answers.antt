-- Checked, then done on sound tables; or refused by the check, with nothing changed.
use Rattle.std.proofs.Common.{rules}
use Rattle.ledger.specs.BucketCalls.{calls, InsertBatch}
use Rattle.buckets_tables.proofs.Public as public
use Rattle.frequency_buckets_batches.proofs.insert_batch.Goals as goal

pub insert_batch-requires : goal.insert_batch-requires
insert_batch-requires c = public.checked _ _ _ c.check.ensures _ c.in_ok-check.was

pub returns-clause-does : goal.returns-clause-does
unfolding calls
returns-clause-does c = public.makes _ _ _ c.check.ensures (InsertBatch _) _ _ _ _ c.in_ok-check.was c.insert_batch.ensures.does

pub returns-in_err-check-clause-does : goal.returns-in_err-check-clause-does
returns-in_err-check-clause-does c = public.refuses _ _ _ c.check.ensures _ _ _ c.in_err-check.was (search rules)
