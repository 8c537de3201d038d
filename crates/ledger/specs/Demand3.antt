-- Demand 3, its two sentences, over the histories of History.antt.
use Rattle.std.specs.Prelude.{◌≡◌, ◌⊎◌, ◌≢◌, List, [], ◌∷◌, ◌++◌, ℕ, ◌≤◌, ◌<◌, ◌^◌, ◌-◌, length}
use Rattle.ledger.specs.Cache.{Cache, CacheFormed}
use Rattle.ledger.specs.History.{CacheCall, Event, inserted, got, peeked, removed, reset, peeked_lfu, evicted, cleared, measured, log, Standing, unbound, guest, standing, guests, Evicts, EvictedIn}

-- an empty cache: no key is bound, whatever its free order and its epoch are
pub record EmptyCache (c : Cache) : Type 0 where
  pub formed : CacheFormed c
  pub nobody : c.table.levels ≡ []

-- at most so many single cache calls
abbrev pub CALLS : ℕ
CALLS = 2 ^ 64 - 2

abbrev pub IsGuest : Standing → Type 0
IsGuest unbound = ⊥
IsGuest (guest n last) = Unit {0}

abbrev pub HasHits : Standing → Type 0
HasHits unbound = ⊥
HasHits (guest n last) = 1 ≤ n

abbrev pub NoHits : Standing → Type 0
NoHits unbound = ⊥
NoHits (guest n last) = n ≡ 0

-- fewer hits, or as many and an older last hit or binding
abbrev pub GoesBefore : Standing → Standing → Type 0
GoesBefore unbound t = ⊥
GoesBefore (guest m a) unbound = ⊥
GoesBefore (guest m a) (guest n b) = (m < n) ⊎ ((m ≡ n) × (a < b))

-- the key v was bound, and goes before every other bound key
pub record LeastGoes (before : List Event) (v : ℕ) : Type 0 where
  pub was_bound : IsGuest (standing v before)
  pub first : (k : ℕ) → IsGuest (standing k before) → k ≢ v → GoesBefore (standing v before) (standing k before)

-- First sentence. From an empty cache of capacity 1 or more, over any sequence of at most 2^64 - 2 single cache calls, parted at
-- any of them: whoever that call evicts has the fewest hits since it was last bound, and among those the oldest last hit or binding.
abbrev pub FirstSentence : Type 0
FirstSentence =
    (start : Cache) → EmptyCache start → 1 ≤ start.table.capacity → (calls : List CacheCall) → length calls ≤ CALLS →
    (before : List Event) (now : Event) (rest : List Event) → log start calls ≡ before ++ (now ∷ rest) →
    (v : ℕ) → Evicts now v → LeastGoes before v

-- inserts alone
abbrev pub IsInsert : Event → Type 0
IsInsert (inserted k v a) = Unit {0}
IsInsert (got k a) = ⊥
IsInsert (peeked k a) = ⊥
IsInsert (removed k a) = ⊥
IsInsert (reset k a) = ⊥
IsInsert (peeked_lfu a) = ⊥
IsInsert (evicted a) = ⊥
IsInsert cleared = ⊥
IsInsert (measured n) = ⊥

abbrev pub OnlyInserts : List Event → Type 0
OnlyInserts [] = Unit {0}
OnlyInserts (e ∷ es) = IsInsert e × OnlyInserts es

-- of the guests bound before with a hit since their binding at most one is evicted in the run of inserts, and none if there was
-- room or a bound guest without hits
pub record Spares (capacity : ℕ) (before inserts : List Event) : Type 0 where
  pub at_most_one : (j k : ℕ) → HasHits (standing j before) → HasHits (standing k before) → EvictedIn inserts j → EvictedIn inserts k → j ≡ k
  pub none_if_room : guests before < capacity → (k : ℕ) → HasHits (standing k before) → EvictedIn inserts k → ⊥
  pub none_if_idle : (j : ℕ) → NoHits (standing j before) → (k : ℕ) → HasHits (standing k before) → EvictedIn inserts k → ⊥

-- Second sentence. In any run of inserts alone within such a sequence.
abbrev pub SecondSentence : Type 0
SecondSentence =
    (start : Cache) → EmptyCache start → 1 ≤ start.table.capacity → (calls : List CacheCall) → length calls ≤ CALLS →
    (before inserts rest : List Event) → log start calls ≡ before ++ (inserts ++ rest) → OnlyInserts inserts →
    Spares start.table.capacity before inserts
