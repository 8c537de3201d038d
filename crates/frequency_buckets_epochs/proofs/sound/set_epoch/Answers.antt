-- The state at the epoch holds the ledger at it.
use Rattle.buckets_tables.proofs.Redated as redated
use Rattle.frequency_buckets_epochs.proofs.sound.set_epoch.Goals as goal

pub returns : goal.returns
returns c = λ t. redated.epoch_set _ _ _ _ c.date.ensures
