-- The records' counts are the lengths of the ledger's lists.
use Rattle.buckets_reads.proofs.Telling as telling
use Rattle.buckets_reads.proofs.sound.len_up_to.Goals as goal

pub returns : goal.returns
returns c = λ k f e p n a i sp. telling.len_up_to_told _ _ _ _ c.count_up_to.ensures
