-- The slot at the tail of the lowest list is let go; key and value are read before, and the value is cleared.
use Rattle.std.proofs.Common.{rules}
use Rattle.buckets_tables.proofs.Asked as asked
use Rattle.cache_tables.proofs.Asking as asking
use Rattle.cache_tables.proofs.Caching as caching
use Rattle.cache_calls.proofs.sound.evict_min_freq.Goals as goal

pub returns-in_default-clause-does : goal.returns-in_default-clause-does
returns-in_default-clause-does c = caching.evict_miss _ _ _ (caching.missed_least _ _ c.in_default.ensures)

pub offset_bounds-guests-slot : goal.offset_bounds-guests-slot
offset_bounds-guests-slot c = let below = (asking.value_sized _ _ _ _ (caching.sought_least _ _ _ c.in-Some.ensures) _ c.requires).1 in search rules

pub bounds-guests-slot : goal.bounds-guests-slot
bounds-guests-slot c =
    (asked.slot_sized _ _ _ (asking.sought_bound _ _ _ _ (caching.sought_least _ _ _ c.in-Some.ensures) (asking.base_sound _ _ c.requires))).0

pub offset_bounds-values-slot : goal.offset_bounds-values-slot
offset_bounds-values-slot c = let below = (asking.value_sized _ _ _ _ (caching.sought_least _ _ _ c.in-Some.ensures) _ c.requires).1 in search rules

pub bounds-values-slot : goal.bounds-values-slot
bounds-values-slot c = (asking.value_sized _ _ _ _ (caching.sought_least _ _ _ c.in-Some.ensures) _ c.requires).0

pub offset_bounds-values-slot-2 : goal.offset_bounds-values-slot-2
offset_bounds-values-slot-2 c = let below = (asking.value_sized _ _ _ _ (caching.sought_least _ _ _ c.in-Some.ensures) _ c.requires).1 in search rules

pub bounds-values-slot-2 : goal.bounds-values-slot-2
bounds-values-slot-2 c = (asking.value_sized _ _ _ _ (caching.sought_least _ _ _ c.in-Some.ensures) _ c.requires).0

pub let_go-requires : goal.let_go-requires
let_go-requires c = asking.sought_bound _ _ _ _ (caching.sought_least _ _ _ c.in-Some.ensures) (asking.base_sound _ _ c.requires)

pub returns-clause-does : goal.returns-clause-does
returns-clause-does c = caching.evict_hit _ _ _ _ (caching.sought_least _ _ _ c.in-Some.ensures) _ _ c.let_go.ensures.does
