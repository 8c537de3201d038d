-- The slot is touched in the lists and gets the epoch; `hit_so` says what the tables hold then.
use Rattle.std.proofs.Common.{refl, rules}
use Rattle.buckets_tables.proofs.Asked as asked
use Rattle.buckets_tables.proofs.sound.hit.Goals as goal

pub touch-frequency-requires : goal.touch-frequency-requires
touch-frequency-requires c = asked.slot_in_lists _ _ _ c.requires.1

pub offset_bounds-epochs-slot : goal.offset_bounds-epochs-slot
offset_bounds-epochs-slot c =
    let slot = (asked.slot_sized _ _ _ c.requires.1).1 in let limit = asked.slot_limit _ _ _ c.requires.1 in search rules

pub bounds-epochs-slot : goal.bounds-epochs-slot
bounds-epochs-slot c = (asked.slot_sized _ _ _ c.requires.1).1

pub lowest_frequency-least-requires : goal.lowest_frequency-least-requires
lowest_frequency-least-requires c = asked.hit_lists_sound _ _ _ c.requires.1 _ _ _ _ _ _ _ _ c.touch-frequency.ensures.does

pub returns-clause-does : goal.returns-clause-does
returns-clause-does c =
    let touched = c.touch-frequency in
    asked.hit_so _ _ _ _ _ _ _ _ _ refl c.lowest_frequency-least.ensures c.recount.ensures (asked.as_long _ _ touched.ensures.same) _ _ touched.ensures.does
