-- The state at the next epoch holds the ledger at it.
use Rattle.buckets_tables.proofs.Redated as redated
use Rattle.frequency_buckets_epochs.proofs.sound.advance_epoch.Goals as goal

pub returns : goal.returns
returns c = λ t. redated.epoch_advanced _ _ _ c.advance.ensures
