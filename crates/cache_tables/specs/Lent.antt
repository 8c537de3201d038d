-- The tables of the cache as a kind of lent tables: with this, the shape of every promise speaks of them.
use Rattle.std.specs.Prelude.{◌≡◌, length}
use Rattle.ledger.specs.Cache.{Cache}
use Rattle.ledger.specs.History.{CacheCall}
use Rattle.ledger.specs.CacheCalls.{cache_calls}
use Rattle.promise.specs.Promise.{Lent}
use Rattle.buckets_tables.specs.declared.State.{State}
use Rattle.buckets_tables.specs.Tables.{Sized}
use Rattle.cache_tables.specs.Tables.{CacheTables, CacheHolds}

abbrev pub cache : Lent
cache = record {
  Tables = CacheTables;
  State = State;
  Ledger = Cache;
  Call = CacheCall;
  capacity = λ s. s.capacity;
  Fits = λ t c. Sized t.base c × (length t.values ≡ c);
  Holds = CacheHolds;
  calls = cache_calls;
}
