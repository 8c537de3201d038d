-- How the public calls of the cache keep their promises, for every call at once: by what the check has answered.
use Rattle.std.proofs.Common.{◌≡◌, Result, Ok, Err}
use Rattle.numbers.specs.declared.Refusal.{Refusal}
use Rattle.ledger.specs.Buckets.{Reply, refused}
use Rattle.ledger.specs.Cache.{Cache}
use Rattle.ledger.specs.History.{CacheCall}
use Rattle.ledger.specs.CacheCalls.{CacheOutcome, cache_calls}
use Rattle.ledger.proofs.CacheRefusals.{CacheQuery, cache_queries_leave}
use Rattle.promise.specs.Promise.{Promised, Checks, Answers, Does, Tells, Sound}
use Rattle.promise.proofs.Promises as keeps
use Rattle.buckets_tables.specs.declared.State.{State}
use Rattle.cache_tables.specs.Tables.{CacheTables}
use Rattle.cache_tables.specs.Lent.{cache}

module _ (t : CacheTables) (s : State) (a : Result Unit Refusal) (c : Checks cache t s a) where
  pub checked : (u : Unit) → a ≡ Ok u → Sound cache t s
  checked u e = keeps.sound_done cache t s a c u e

  -- the call on sound tables does it
  pub does : (f : Cache → CacheOutcome) (r : Reply) (t' : CacheTables) (s' : State) (u : Unit) → a ≡ Ok u → Does cache f t s r t' s' → Promised cache f t s r t' s'
  does f r t' s' u e d = keeps.promised_done cache t s a c f r t' s' u e d

  -- or tells it
  pub answers : (call : CacheCall) → CacheQuery call → (r : Reply) (u : Unit) → a ≡ Ok u → Tells cache (cache_calls call) t s r → Answers cache call t s r
  unfolding cache_calls
  answers call q r u e d = keeps.answers cache t s a c call (λ l. cache_queries_leave l call q) r u e d

  -- the check's own refusal
  pub refuses : (f : Cache → CacheOutcome) (r : Reply) (why : Refusal) → a ≡ Err why → r ≡ refused why → Promised cache f t s r t s
  refuses f r why e told = keeps.promised_refused cache t s a c f r why e told
