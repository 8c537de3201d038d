-- Demand 3 of the code: of any sequence of single calls, each made on the tables and the state that the one before left, and of what
-- was answered. A call is made when its promise is kept; the promises are those of the public calls.
use Rattle.std.specs.Prelude.{◌≡◌, cond, List, [], ◌∷◌, ◌++◌, map, ℕ, ◌≤◌, eqb, length, Ok}
use Rattle.lists.specs.Lists.{In}
use Rattle.ledger.specs.Ledger.{Item, items, size}
use Rattle.ledger.specs.Buckets.{Reply, done, refused}
use Rattle.ledger.specs.Cache.{Cache, new_cache, Insertion, fresh, fresh_out, old, full, Lookup, hit, miss, Least, least, nothing}
use Rattle.ledger.specs.History.{CacheCall, Insert, Get, Peek, Remove, Reset, PeekLfu, Evict, Clear, Len, Event, inserted, got, peeked, removed, reset, peeked_lfu, evicted, cleared, measured, log, after_all, Evicts}
use Rattle.ledger.specs.CacheCalls.{event_reply}
use Rattle.ledger.specs.Demand3.{EmptyCache, CALLS, LeastGoes, OnlyInserts, Spares}
use Rattle.promise.specs.Promise.{Makes}
use Rattle.promise.specs.Making.{Made}
use Rattle.buckets_tables.specs.declared.State.{State}
use Rattle.cache_tables.specs.Tables.{CacheTables, CacheHolds}
use Rattle.cache_tables.specs.Lent.{cache}

-- What a reply says, by kind of call: document 01's numbers read back

abbrev pub insertion_of : Reply → Insertion
insertion_of (done []) = full
insertion_of (done (n ∷ [])) = fresh
insertion_of (done (n ∷ (m ∷ ns))) = cond (eqb n 1) (fresh_out m) (old m)
insertion_of (refused a) = full

abbrev pub lookup_of : Reply → Lookup
lookup_of (done []) = miss
lookup_of (done (n ∷ ns)) = hit n
lookup_of (refused a) = miss

abbrev pub least_of : Reply → Least
least_of (done []) = nothing
least_of (done (k ∷ [])) = nothing
least_of (done (k ∷ (v ∷ ns))) = least k v
least_of (refused a) = nothing

abbrev pub count_of : Reply → ℕ
count_of (done []) = 0
count_of (done (n ∷ ns)) = n
count_of (refused a) = 0

abbrev pub event_of : CacheCall → Reply → Event
event_of (Insert k v) r = inserted k v (insertion_of r)
event_of (Get k) r = got k (lookup_of r)
event_of (Peek k) r = peeked k (lookup_of r)
event_of (Remove k) r = removed k (lookup_of r)
event_of (Reset k) r = reset k (lookup_of r)
event_of PeekLfu r = peeked_lfu (least_of r)
event_of Evict r = evicted (least_of r)
event_of Clear r = cleared
event_of Len r = measured (count_of r)

-- what was called and answered, as a history
abbrev pub history : List CacheCall → List Reply → List Event
history [] rs = []
history (a ∷ as') [] = []
history (a ∷ as') (r ∷ rs) = event_of a r ∷ history as' rs

-- calls in a row, each promise kept
abbrev pub Runs : CacheTables → State → List CacheCall → List Reply → CacheTables → State → Type 0
Runs t s [] [] t' s' = (t' ≡ t) × (s' ≡ s)
Runs t s [] (r ∷ rs) t' s' = ⊥
Runs t s (a ∷ as') [] t' s' = ⊥
Runs t s (a ∷ as') (r ∷ rs) t' s' = (u : CacheTables) × (z : State) × Makes cache a t s r u z × Runs u z as' rs t' s'

-- from tables that hold a cache: the calls, the replies, and the tables and the state after them
pub record Served (start : Cache) (calls : List CacheCall) (replies : List Reply) (t : CacheTables) (s : State) : Type 0 where
  pub lent : CacheTables
  pub state : State
  pub held : CacheHolds lent state start
  pub runs : Runs lent state calls replies t s

-- The replies are those of the ledger's run, the tables hold its cache, and no two bound guests hold one slot.
pub record AsLedger (start : Cache) (calls : List CacheCall) (replies : List Reply) (t : CacheTables) (s : State) : Type 0 where
  pub answers : replies ≡ map event_reply (log start calls)
  pub told : history calls replies ≡ log start calls
  pub holds : CacheHolds t s (after_all start calls)
  pub apart : (c : Cache) → CacheHolds t s c → (x y : Item) → In x (items c.table.levels) → In y (items c.table.levels) → x.slot ≡ y.slot → x.key ≡ y.key

abbrev pub RunsAsLedger : Type 0
RunsAsLedger = (start : Cache) (calls : List CacheCall) (replies : List Reply) (t : CacheTables) (s : State) → Served start calls replies t s → AsLedger start calls replies t s

-- Tables that `new` has made hold an empty cache; and so do any that hold a cache in which no key is bound, as after a clear, or when the
-- last guest has left.
abbrev pub NewIsEmpty : Type 0
NewIsEmpty =
    (capacity : ℕ) (handed made : CacheTables) (state : State) → Made cache (new_cache capacity) capacity handed (Ok state) made →
    CacheHolds made state (new_cache capacity) × EmptyCache (new_cache capacity)

abbrev pub NobodyIsEmpty : Type 0
NobodyIsEmpty = (t : CacheTables) (s : State) (c : Cache) → CacheHolds t s c → size c.table ≡ 0 → EmptyCache c

-- Whoever a call evicts, by its reply, has the fewest hits since it was last bound, and among those the oldest last hit or binding: by
-- the calls made before it and their replies.
abbrev pub FirstAtCode : Type 0
FirstAtCode =
    (start : Cache) → EmptyCache start → 1 ≤ start.table.capacity → (calls : List CacheCall) (replies : List Reply) (t : CacheTables) (s : State) →
    Served start calls replies t s → length calls ≤ CALLS →
    (before : List Event) (now : Event) (rest : List Event) → history calls replies ≡ before ++ (now ∷ rest) →
    (v : ℕ) → Evicts now v → LeastGoes before v

-- And in a run of inserts, of the guests bound before with a hit since their binding at most one is evicted, and none if there was room
-- or a bound guest without hits.
abbrev pub SecondAtCode : Type 0
SecondAtCode =
    (start : Cache) → EmptyCache start → 1 ≤ start.table.capacity → (calls : List CacheCall) (replies : List Reply) (t : CacheTables) (s : State) →
    Served start calls replies t s → length calls ≤ CALLS →
    (before inserts rest : List Event) → history calls replies ≡ before ++ (inserts ++ rest) → OnlyInserts inserts →
    Spares start.table.capacity before inserts
