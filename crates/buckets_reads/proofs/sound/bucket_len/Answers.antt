-- The record's count is the length of the ledger's list.
use Rattle.buckets_reads.proofs.Telling as telling
use Rattle.buckets_reads.proofs.sound.bucket_len.Goals as goal

pub returns : goal.returns
returns c = λ k f e p n a i sp. telling.bucket_len_told _ _ _ _ c.count.ensures
