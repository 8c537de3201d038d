-- The epoch is written where the index finds the key.
use Rattle.std.proofs.Common.{refl}
use Rattle.buckets_tables.proofs.Redated as redated
use Rattle.frequency_buckets_epochs.proofs.sound.set_entry_epoch.Goals as goal

pub returns-in-Some : goal.returns-in-Some
returns-in-Some c = λ f p n a b sp s. redated.redate_done _ _ _ _ _ _ _ _ _ _ _ _ _ c.in-Some.ensures _ refl

pub returns-in-None : goal.returns-in-None
returns-in-None c = λ f p n a b sp s. redated.redate_absent _ _ _ _ c.in-None.ensures
