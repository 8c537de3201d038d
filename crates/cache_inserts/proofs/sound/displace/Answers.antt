-- The key takes the slot at the tail of the lowest list; whose key that was is read before.
use Rattle.std.proofs.Common.{rules}
use Rattle.buckets_tables.proofs.Asked as asked
use Rattle.cache_tables.proofs.Asking as asking
use Rattle.cache_tables.proofs.Caching as caching
use Rattle.cache_tables.proofs.Inserting as inserting
use Rattle.cache_inserts.proofs.sound.displace.Goals as goal

pub returns-in_default-clause-does : goal.returns-in_default-clause-does
returns-in_default-clause-does c =
    λ vs v. inserting.insert_refused _ vs _ _ v c.requires.unbound.missed c.requires.full (caching.missed_least _ _ c.in_default.ensures)

pub offset_bounds-guests-slot : goal.offset_bounds-guests-slot
offset_bounds-guests-slot c =
    let limit = asked.slot_limit _ _ _ (asking.sought_bound _ _ _ _ (caching.sought_least _ _ _ c.in-Some.ensures) c.requires.unbound.sound) in search rules

pub bounds-guests-slot : goal.bounds-guests-slot
bounds-guests-slot c = (asked.slot_sized _ _ _ (asking.sought_bound _ _ _ _ (caching.sought_least _ _ _ c.in-Some.ensures) c.requires.unbound.sound)).0

pub replace-requires : goal.replace-requires
replace-requires c =
    let absent = c.requires.unbound in asking.out_replaceable _ _ _ _ absent.sound absent.missed c.requires.full (caching.sought_least _ _ _ c.in-Some.ensures)

pub returns-clause-does : goal.returns-clause-does
returns-clause-does c =
    λ vs v. inserting.insert_out _ vs _ _ v c.requires.unbound.missed c.requires.full _ (caching.sought_least _ _ _ c.in-Some.ensures) _ _ c.replace.ensures.does
