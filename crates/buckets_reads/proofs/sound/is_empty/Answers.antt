-- The state's count is the ledger's, and it is tested for 0.
use Rattle.buckets_reads.proofs.Telling as telling
use Rattle.buckets_reads.proofs.sound.is_empty.Goals as goal

pub returns : goal.returns
returns c = λ t. telling.empty_told _ _
