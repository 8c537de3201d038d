-- The state's count is the ledger's number of keys.
use Rattle.buckets_reads.proofs.Telling as telling
use Rattle.buckets_reads.proofs.sound.len.Goals as goal

pub returns : goal.returns
returns c = λ t. telling.len_told _ _
