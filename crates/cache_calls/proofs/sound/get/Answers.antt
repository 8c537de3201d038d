-- A bound key is hit where the index finds it; its value is read after it.
use Rattle.std.proofs.Common.{refl, arith}
use Rattle.buckets_tables.proofs.Doing as doing
use Rattle.cache_tables.proofs.Asking as asking
use Rattle.cache_tables.proofs.Caching as caching
use Rattle.cache_calls.proofs.sound.get.Goals as goal

pub hit-requires : goal.hit-requires
hit-requires c =
    (record { keys = c.args.keys.now; arena = c.requires.0; index = c.args.index.now }, doing.found_bound _ _ _ _ (asking.base_sound _ _ c.requires.1) c.in-Some.ensures)

pub returns-in-Some-clause-does : goal.returns-in-Some-clause-does
returns-in-Some-clause-does c =
    λ a. caching.get_hit _ _ _ _ _ (caching.sought_key _ _ _ _ c.in-Some.ensures) _ _ _
    (doing.touch_done (record { keys = c.args.keys.now; arena = a; index = c.args.index.now }) _ _ _ _ _ _ _ refl (omega arith) c.in-Some.ensures _ _ _ _ c.hit.ensures.does)

pub returns-in-None-clause-does : goal.returns-in-None-clause-does
returns-in-None-clause-does c = λ a. caching.get_miss _ _ _ _ (caching.missed_key _ _ _ c.in-None.ensures)
