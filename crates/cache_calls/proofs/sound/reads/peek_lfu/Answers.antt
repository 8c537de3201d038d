-- Key and value are read at the tail of the lowest list.
use Rattle.std.proofs.Common.{rules}
use Rattle.buckets_tables.proofs.Asked as asked
use Rattle.cache_tables.proofs.Asking as asking
use Rattle.cache_tables.proofs.Caching as caching
use Rattle.cache_calls.proofs.sound.reads.peek_lfu.Goals as goal

pub returns-in_default : goal.returns-in_default
returns-in_default c = λ f e p n a i sp. caching.peek_lfu_miss _ _ _ (caching.missed_least _ _ c.in_default.ensures)

pub offset_bounds-keys-slot : goal.offset_bounds-keys-slot
offset_bounds-keys-slot c = let below = (asking.value_sized _ _ _ _ (caching.sought_least _ _ _ c.in-Some.ensures) _ c.requires.7).1 in search rules

pub bounds-keys-slot : goal.bounds-keys-slot
bounds-keys-slot c =
    (asked.slot_sized _ _ _ (asking.sought_bound _ _ _ _ (caching.sought_least _ _ _ c.in-Some.ensures) (asking.base_sound _ _ c.requires.7))).0

pub offset_bounds-values-slot : goal.offset_bounds-values-slot
offset_bounds-values-slot c = let below = (asking.value_sized _ _ _ _ (caching.sought_least _ _ _ c.in-Some.ensures) _ c.requires.7).1 in search rules

pub bounds-values-slot : goal.bounds-values-slot
bounds-values-slot c = (asking.value_sized _ _ _ _ (caching.sought_least _ _ _ c.in-Some.ensures) _ c.requires.7).0

pub returns : goal.returns
returns c = λ f e p n a i sp. caching.peek_lfu_hit _ _ _ _ (caching.sought_least _ _ _ c.in-Some.ensures)
