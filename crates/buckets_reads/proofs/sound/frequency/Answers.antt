-- The number is read where the index finds the key.
use Rattle.buckets_reads.proofs.Telling as telling
use Rattle.buckets_reads.proofs.sound.frequency.Goals as goal

pub returns-in-Some : goal.returns-in-Some
returns-in-Some c = λ e p n a b sp s. telling.frequency_found _ _ _ _ (rw c.in-Some.is at c.find.ensures)

pub returns-in-None : goal.returns-in-None
returns-in-None c = λ e p n a b sp s. telling.frequency_absent _ _ _ (rw c.in-None.is at c.find.ensures)
