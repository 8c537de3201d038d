-- The number is read where the index finds the key.
use Rattle.buckets_reads.proofs.Telling as telling
use Rattle.buckets_reads.proofs.sound.entry_epoch.Goals as goal

pub returns-in-Some : goal.returns-in-Some
returns-in-Some c = λ f p n a b sp s. telling.epoch_found _ _ _ _ (rw c.in-Some.is at c.find.ensures)

pub returns-in-None : goal.returns-in-None
returns-in-None c = λ f p n a b sp s. telling.epoch_absent _ _ _ (rw c.in-None.is at c.find.ensures)
