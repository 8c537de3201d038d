-- The value is read where the index finds the key.
use Rattle.cache_tables.proofs.Caching as caching
use Rattle.cache_calls.proofs.sound.reads.peek.Goals as goal

pub returns-in-Some : goal.returns-in-Some
returns-in-Some c = λ f e p n a b sp s. caching.peek_hit _ _ _ _ _ (caching.sought_key _ _ _ _ c.in-Some.ensures)

pub returns-in-None : goal.returns-in-None
returns-in-None c = λ f e p n a b sp s. caching.peek_miss _ _ _ _ (caching.missed_key _ _ _ c.in-None.ensures)
