-- The key starts again where the index finds it; its frequency is read before.
use Rattle.buckets_tables.proofs.Doing as doing
use Rattle.cache_tables.proofs.Caching as caching
use Rattle.cache_calls.proofs.sound.reset_frequency.Goals as goal

pub restart-requires : goal.restart-requires
restart-requires c =
    (record { keys = c.args.keys.now; arena = c.requires.0; index = c.args.index.now }, doing.found_bound _ _ _ _ c.requires.1 c.in-Some.ensures)

pub returns-in-Some-clause-does : goal.returns-in-Some-clause-does
returns-in-Some-clause-does c =
    λ b. caching.reset_hit (record { keys = c.args.keys.now; arena = b.0; index = c.args.index.now }) _ _ b.1 _ _ _
    (caching.sought_key _ _ _ _ c.in-Some.ensures) _ _ _ c.restart.ensures.does

pub returns-in-None-clause-does : goal.returns-in-None-clause-does
returns-in-None-clause-does c = λ b. caching.reset_miss _ b.1 _ _ (caching.missed_key _ _ _ c.in-None.ensures)
