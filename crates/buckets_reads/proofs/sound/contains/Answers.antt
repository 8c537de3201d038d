-- The key is bound exactly where the index finds it.
use Rattle.buckets_reads.proofs.Telling as telling
use Rattle.buckets_reads.proofs.sound.contains.Goals as goal

pub returns : goal.returns
returns c = λ f e p n a b sp s. rw c.is_some.ensures (telling.contains_told _ _ _ _ c.find.ensures)
