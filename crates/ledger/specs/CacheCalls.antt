-- Each call of the cache as a function from a cache to a reply and the cache after it: what promises speak of.
use Rattle.std.specs.Prelude.{List, [], ◌∷◌, ℕ}
use Rattle.ledger.specs.Buckets.{Reply, done}
use Rattle.ledger.specs.Cache.{Cache, insert_reply, lookup_reply, least_reply, cache_insert_batch, cache_remove_batch, cache_touch_batch}
use Rattle.ledger.specs.History.{CacheCall, Event, inserted, got, peeked, removed, reset, peeked_lfu, evicted, cleared, measured, does}

abbrev pub CacheOutcome : Type 0
CacheOutcome = Reply × Cache

-- document 01's answer to a call that was made
abbrev pub event_reply : Event → Reply
event_reply (inserted k v a) = insert_reply a
event_reply (got k a) = lookup_reply a
event_reply (peeked k a) = lookup_reply a
event_reply (removed k a) = lookup_reply a
event_reply (reset k a) = lookup_reply a
event_reply (peeked_lfu a) = least_reply a
event_reply (evicted a) = least_reply a
event_reply cleared = done []
event_reply (measured n) = done (n ∷ [])

unfoldable pub cache_calls : CacheCall → Cache → CacheOutcome
cache_calls a c = let r = does a c in (event_reply r.0, r.1)

-- a batch answers a count
abbrev pub counted_cache : ℕ × Cache → CacheOutcome
counted_cache r = (done (r.0 ∷ []), r.1)

unfoldable pub insert_batch_call : List (ℕ × ℕ) → Cache → CacheOutcome
insert_batch_call ps c = counted_cache (cache_insert_batch ps c)

unfoldable pub remove_batch_call : List ℕ → Cache → CacheOutcome
remove_batch_call ks c = counted_cache (cache_remove_batch ks c)

unfoldable pub touch_batch_call : List ℕ → Cache → CacheOutcome
touch_batch_call ks c = counted_cache (cache_touch_batch ks c)
