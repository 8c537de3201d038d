-- The slot leaves its list and enters the first one, and gets the epoch; `restart_so` says what the tables hold then.
use Rattle.std.proofs.Common.{refl, rules}
use Rattle.buckets_tables.proofs.Asked as asked
use Rattle.buckets_tables.proofs.sound.restart.Goals as goal

pub restart-requires : goal.restart-requires
restart-requires c = asked.slot_in_lists _ _ _ c.requires.1

pub offset_bounds-epochs-slot : goal.offset_bounds-epochs-slot
offset_bounds-epochs-slot c =
    let bound = c.requires.1 in let slot = (asked.slot_sized _ _ _ bound).1 in let limit = asked.slot_limit _ _ _ bound in search rules

pub bounds-epochs-slot : goal.bounds-epochs-slot
bounds-epochs-slot c = (asked.slot_sized _ _ _ c.requires.1).1

pub lowest_frequency-lowest-requires : goal.lowest_frequency-lowest-requires
lowest_frequency-lowest-requires c = asked.restart_lists_sound _ _ _ c.requires.1 _ _ _ _ _ _ c.restart.ensures.does

pub returns-clause-does : goal.returns-clause-does
returns-clause-does c =
    let restarted = c.restart in
    asked.restart_so _ _ _ _ _ _ _ _ _ refl c.lowest_frequency-lowest.ensures c.recount.ensures (asked.as_long _ _ restarted.ensures.same) restarted.ensures.does
