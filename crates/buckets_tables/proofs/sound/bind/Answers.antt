-- The first free slot is taken, entered and put into its level; `bound_so` says that the tables hold the key then.
use Rattle.std.proofs.Common.{rules}
use Rattle.buckets_tables.proofs.Asked as asked
use Rattle.buckets_tables.proofs.sound.bind.Goals as goal

pub take-slot-requires : goal.take-slot-requires
take-slot-requires c = asked.room_first _ _ _ c.requires

pub enter_entry-requires : goal.enter_entry-requires
enter_entry-requires c = asked.room_vacant _ _ _ c.requires _ c.take-slot.ensures.slot

pub bind-requires : goal.bind-requires
bind-requires c = asked.room_binding _ _ _ c.requires _ c.take-slot.ensures.slot

pub lowest_frequency-lowest-requires : goal.lowest_frequency-lowest-requires
lowest_frequency-lowest-requires c = asked.room_lists _ _ _ c.requires _ _ _ _ _ _ _ c.bind.ensures.does

pub overflow_add-state : goal.overflow_add-state
overflow_add-state c = let room = asked.room_count _ _ _ c.requires in search rules

pub returns-clause-does : goal.returns-clause-does
returns-clause-does c =
    let room = c.requires in
    let entered = c.enter_entry in
    let listed = c.bind in
    let long = asked.as_long _ _ listed.ensures.same in
    asked.bound_so _ _ _ room _ _ _ _ _ _ c.take-slot.ensures entered.ensures _ _ _ _ _ _ listed.ensures.does _ c.lowest_frequency-lowest.ensures
    (asked.sized_like _ _ room.holds.sized _ _ _ _ _ _ _ _ _ entered.auto.keys long.freqs entered.auto.epochs long.prevs long.nexts c.take-slot.auto.arena
    entered.auto.index long.buckets long.spares) _ c.recount.ensures
