-- The state's epoch is the ledger's.
use Rattle.buckets_reads.proofs.Telling as telling
use Rattle.buckets_reads.proofs.sound.current_epoch.Goals as goal

pub returns : goal.returns
returns c = λ t. telling.epoch_told _ _
