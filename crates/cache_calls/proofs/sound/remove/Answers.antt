-- A bound key is let go from where the index finds it; its value is read and cleared before.
use Rattle.cache_tables.proofs.Caching as caching
use Rattle.cache_calls.proofs.sound.remove.Goals as goal

pub returns-in-Some-clause-does : goal.returns-in-Some-clause-does
returns-in-Some-clause-does c = caching.remove_hit _ _ _ _ _ (caching.sought_key _ _ _ _ c.in-Some.ensures) _ _ c.let_go.ensures.does

pub returns-in-None-clause-does : goal.returns-in-None-clause-does
returns-in-None-clause-does c = caching.remove_miss _ _ _ _ (caching.missed_key _ _ _ c.in-None.ensures)
