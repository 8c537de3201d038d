-- `enter_entry` writes to a slot that is not in the index, so the index is sound for the new keys too, and then puts it in.
use Rattle.buckets_tables.proofs.Steps.{vacant_in}
use Rattle.buckets_tables.proofs.sound.enter_entry.Goals as goal

pub insert-requires : goal.insert-requires
insert-requires c = vacant_in _ _ _ _ _ c.requires
