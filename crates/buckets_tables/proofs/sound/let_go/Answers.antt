-- The slot leaves the index and its level and goes to the free order; `gone_so` says what the tables hold then.
use Rattle.std.proofs.Common.{rules}
use Rattle.buckets_tables.proofs.Asked as asked
use Rattle.buckets_tables.proofs.sound.let_go.Goals as goal

pub leave_entry-requires : goal.leave_entry-requires
leave_entry-requires c = let bound = c.requires in let slot = asked.slot_sized _ _ _ bound in (bound.holds.index_sound, slot.0, slot.1)

pub unbind-requires : goal.unbind-requires
unbind-requires c = asked.slot_in_lists _ _ _ c.requires

pub release-requires : goal.release-requires
release-requires c = (asked.slot_sized _ _ _ c.requires).2

pub lowest_frequency-lowest-requires : goal.lowest_frequency-lowest-requires
lowest_frequency-lowest-requires c = asked.left_lists_sound _ _ _ c.requires _ _ _ _ _ _ c.unbind.ensures.does

pub overflow_sub-state : goal.overflow_sub-state
overflow_sub-state c = let some = asked.count_some _ _ _ c.requires in search rules

pub returns-clause-does : goal.returns-clause-does
returns-clause-does c =
    let left = c.leave_entry in
    let unbound = c.unbind in
    let long = asked.as_long _ _ unbound.ensures.same in
    asked.gone_so _ _ _ _ _ _ _ _ _ _ _ _ _ _ _ _ left.ensures unbound.ensures.does c.release.ensures c.lowest_frequency-lowest.ensures c.recount.ensures
    (λ m h. asked.sized_like _ _ h _ _ _ _ _ _ _ _ _ left.auto.keys long.freqs left.auto.epochs long.prevs long.nexts c.release.auto.arena
    left.auto.index long.buckets long.spares)
