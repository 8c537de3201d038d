-- What calls do that are not lent every table: the same, for every table that may stand beside those that are.
use Rattle.std.specs.Prelude.{List, ℕ}
use Rattle.ledger.specs.Buckets.{Reply}
use Rattle.ledger.specs.Cache.{Cache}
use Rattle.ledger.specs.CacheCalls.{CacheOutcome}
use Rattle.promise.specs.Promise.{Tells, Sound}
use Rattle.buckets_tables.specs.declared.State.{State}
use Rattle.buckets_tables.specs.Tables.{Tables, tables}
use Rattle.levels.specs.Held.{Tabs}
use Rattle.buckets_calls.specs.Calls as buckets
use Rattle.cache_tables.specs.Tables.{CacheTables, with_values}
use Rattle.cache_tables.specs.Lent.{cache}

-- keys, index and values are lent
abbrev pub CacheOfKeys : (k i vs : List ℕ) → (Cache → CacheOutcome) → Reply → Type 0
CacheOfKeys k i vs call r = (f e p n a b sp : List ℕ) (s : State) → Tells cache call (with_values (tables k f e p n a i b sp) vs) s r

-- keys, bucket records and values are lent: with some other tables they are sound
abbrev pub CachePeekable : (k b vs : List ℕ) → State → Type 0
CachePeekable k b vs s =
    (f : List ℕ) × (e : List ℕ) × (p : List ℕ) × (n : List ℕ) × (a : List ℕ) × (i : List ℕ) × (sp : List ℕ) × Sound cache (with_values (tables k f e p n a i b sp) vs) s

abbrev pub CacheOfLeast : (k b vs : List ℕ) → State → (Cache → CacheOutcome) → Reply → Type 0
CacheOfLeast k b vs s call r = (f e p n a i sp : List ℕ) → Tells cache call (with_values (tables k f e p n a i b sp) vs) s r

-- a get is not lent the arena: the tables that it is lent, with an arena beside them
abbrev pub with : (keys index epochs : List ℕ) → Tabs → (values : List ℕ) → (arena : List ℕ) → CacheTables
with k i e l vs a = with_values (buckets.with k i e l a) vs

-- a reset is lent neither the arena nor the values
abbrev pub with_any : (List ℕ → Tables) → List ℕ × List ℕ → CacheTables
with_any t b = with_values (t b.0) b.1
