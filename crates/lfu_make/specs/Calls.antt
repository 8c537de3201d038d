-- What is made where the lengths fit: a new cache, whatever the bucket table has, which is not lent.
use Rattle.std.specs.Prelude.{◌≡◌, List, ℕ, ◌*◌, length}
use Rattle.ledger.specs.Cache.{new_cache}
use Rattle.bucket_table.specs.Records.{WORDS}
use Rattle.buckets_tables.specs.declared.State.{State}
use Rattle.levels.specs.Held.{tabs}
use Rattle.buckets_tables.specs.declared.Guests.{Guests}
use Rattle.buckets_tables.specs.Slices.{joined}
use Rattle.cache_tables.specs.Tables.{with_values, CacheHolds}

abbrev pub CacheCleared : Guests (List ℕ) → (epochs freqs prevs nexts spares values : List ℕ) → ℕ → State → Type 0
CacheCleared g e f p n sp vs c s = (b : List ℕ) → length b ≡ c * WORDS → CacheHolds (with_values (joined g e (tabs f p n b sp)) vs) s (new_cache c)
