-- What the batches of the cache promise beyond the single calls: two slices are one list of pairs, an insert counts where it binds a
-- key, and slices of different lengths are refused as tables that are too short are.
use Rattle.std.specs.Prelude.{◌≡◌, ◌≢◌, cond, List, [], ◌∷◌, ℕ, ltb, length, Result, Err}
use Rattle.numbers.specs.declared.Refusal.{Refusal}
use Rattle.ledger.specs.Buckets.{Reply, done, refused}
use Rattle.ledger.specs.CacheCalls.{insert_batch_call}
use Rattle.promise.specs.Promise.{Refuses, Promised, Checks}
use Rattle.buckets_tables.specs.declared.State.{State}
use Rattle.cache_tables.specs.Tables.{CacheTables}
use Rattle.cache_tables.specs.Lent.{cache}
use Rattle.cache_check.specs.Check.{short_of}

-- two slices, item by item
abbrev pub pairs : List ℕ → List ℕ → List (ℕ × ℕ)
pairs [] vs = []
pairs (k ∷ ks) [] = []
pairs (k ∷ ks) (v ∷ vs) = (k, v) ∷ pairs ks vs

-- the first number of an insert's reply is 0 or 1 where the key is newly bound, and 2 where it was bound
abbrev pub bound_in : Reply → ℕ
bound_in (done []) = 0
bound_in (done (n ∷ ns)) = cond (ltb n 2) 1 0
bound_in (refused a) = 0

-- a batch of inserts: slices of one length are as many calls as they have items; others are SHORT, after CAPACITY and before CORRUPT
pub record InsertsAll (ks vs : List ℕ) (t : CacheTables) (s : State) (r : Reply) (t' : CacheTables) (s' : State) : Type 0 where
  pub even : length ks ≡ length vs → Promised cache (insert_batch_call (pairs ks vs)) t s r t' s'
  pub uneven : length ks ≢ length vs → Refuses cache t s r t' s' (short_of s.capacity)

-- and what is looked at before it
pub record BatchChecks (ks vs : List ℕ) (t : CacheTables) (s : State) (a : Result Unit Refusal) : Type 0 where
  pub even : length ks ≡ length vs → Checks cache t s a
  pub uneven : length ks ≢ length vs → a ≡ Err (short_of s.capacity)
