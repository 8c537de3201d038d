-- A batch equals its steps: the ledger after it is that of the single calls one by one, and its answer is how many of them were
-- done (of the cache's inserts, how many keys were newly bound). Inductions on the items.
use mathlib.Core.Path.{◌≡◌, refl, sym, ap, ◌∙◌}
use mathlib.Core.List.{List, [], ◌∷◌, map}
use Prim.Native.Nat.{ℕ, ◌+◌}
use Rattle.lists.specs.Lists.{sum}
use Rattle.numbers.specs.Frequency.{CEILING}
use Rattle.ledger.specs.Ledger.{Ledger}
use Rattle.ledger.specs.Buckets.{Outcome, done, was_done, batch, counted, insert, touch, remove, insert_batch, touch_batch, remove_batch}
use Rattle.ledger.specs.BucketCalls.{BucketCall, calls, replies, after_calls}
use Rattle.ledger.specs.BucketCalls
use Rattle.ledger.specs.Cache.{Cache, CacheFormed, Insertion, fresh, fresh_out, old, full, newly_bound, Lookup, hit, miss, was_hit, lookup_reply, cache_insert, cache_get, cache_remove, cache_insert_batch, key_batch, cache_remove_batch, cache_touch_batch}
use Rattle.ledger.specs.History.{CacheCall, Insert, Get, Remove, Event, inserted, does, log, after_all, says, bindings}
use Rattle.ledger.specs.CacheCalls.{event_reply}
use Rattle.ledger.proofs.CacheKept.{run_formed}

-- The buckets

-- the single calls, counted
abbrev pub steps : Ledger → List BucketCall → Outcome
steps l cs = (done (sum was_done (replies l cs) ∷ []), after_calls l cs)

module _ (call : ℕ → Ledger → Outcome) (C : ℕ → BucketCall) (same : (k : ℕ) (l : Ledger) → call k l ≡ calls (C k) l) where
  count_steps : (ks : List ℕ) (l : Ledger) → (batch call ks l).0 ≡ sum was_done (replies l (map C ks))
  count_steps [] l = refl
  count_steps (k ∷ ks) l = rw (same k l) (ap (λ (n : ℕ). was_done (calls (C k) l).0 + n) (count_steps ks (calls (C k) l).1))

  after_steps : (ks : List ℕ) (l : Ledger) → (batch call ks l).1 ≡ after_calls l (map C ks)
  after_steps [] l = refl
  after_steps (k ∷ ks) l = ap (λ (o : Outcome). (batch call ks o.1).1) (same k l) ∙ after_steps ks (calls (C k) l).1

  batch_steps : (ks : List ℕ) (l : Ledger) → counted (batch call ks l) ≡ steps l (map C ks)
  batch_steps ks l = λ i. (done (count_steps ks l i ∷ []), after_steps ks l i)

pub insert_batch_steps : (ks : List ℕ) (l : Ledger) → insert_batch ks l ≡ steps l (map BucketCalls.Insert ks)
unfolding insert_batch calls
insert_batch_steps ks l = batch_steps insert BucketCalls.Insert (λ k m. refl) ks l

pub touch_batch_steps : (ks : List ℕ) (l : Ledger) → touch_batch ks l ≡ steps l (map (BucketCalls.Touch CEILING) ks)
unfolding touch_batch calls
touch_batch_steps ks l = batch_steps (touch CEILING) (BucketCalls.Touch CEILING) (λ k m. refl) ks l

pub remove_batch_steps : (ks : List ℕ) (l : Ledger) → remove_batch ks l ≡ steps l (map BucketCalls.Remove ks)
unfolding remove_batch calls
remove_batch_steps ks l = batch_steps remove BucketCalls.Remove (λ k m. refl) ks l

-- The cache

abbrev pub cache_steps : (Event → ℕ) → Cache → List CacheCall → ℕ × Cache
cache_steps count c cs = (sum count (log c cs), after_all c cs)

hits_done : (a : Lookup) → was_done (lookup_reply a) ≡ was_hit a
hits_done (hit v) = refl
hits_done miss = refl

bound_new : (k v : ℕ) (a : Insertion) → bindings (says (inserted k v a)) ≡ newly_bound a
bound_new k v fresh = refl
bound_new k v (fresh_out x) = refl
bound_new k v (old w) = refl
bound_new k v full = refl

module _ (call : ℕ → Cache → Lookup × Cache) (C : ℕ → CacheCall) (same : (k : ℕ) (c : Cache) →
    ((does (C k) c).1 ≡ (call k c).1) × (was_done (event_reply (does (C k) c).0) ≡ was_hit (call k c).0)) where
  keys_steps : (ks : List ℕ) (c : Cache) → key_batch call ks c ≡ cache_steps (λ e. was_done (event_reply e)) c (map C ks)
  keys_steps [] c = refl
  keys_steps (k ∷ ks) c =
      let s = same k c in
      let rest = keys_steps ks (call k c).1 ∙ ap (λ d. cache_steps (λ e. was_done (event_reply e)) d (map C ks)) (sym s.0) in
      λ i. (sym s.1 i + (rest i).0, (rest i).1)

pub cache_touch_batch_steps : (ks : List ℕ) (c : Cache) → cache_touch_batch ks c ≡ cache_steps (λ e. was_done (event_reply e)) c (map Get ks)
unfolding cache_touch_batch does
cache_touch_batch_steps ks c = keys_steps cache_get Get (λ k d. (refl, hits_done (cache_get k d).0)) ks c

pub cache_remove_batch_steps : (ks : List ℕ) (c : Cache) → cache_remove_batch ks c ≡ cache_steps (λ e. was_done (event_reply e)) c (map Remove ks)
unfolding cache_remove_batch does
cache_remove_batch_steps ks c = keys_steps cache_remove Remove (λ k d. (refl, hits_done (cache_remove k d).0)) ks c

abbrev pub insert_of : ℕ × ℕ → CacheCall
insert_of p = Insert p.0 p.1

pub cache_insert_batch_steps : (ps : List (ℕ × ℕ)) (c : Cache) → cache_insert_batch ps c ≡ cache_steps (λ e. bindings (says e)) c (map insert_of ps)
unfolding cache_insert_batch does
cache_insert_batch_steps [] c = refl
cache_insert_batch_steps (p ∷ ps) c =
    let r = cache_insert p.0 p.1 c in
    let ih = cache_insert_batch_steps ps r.1 in
    rw (bound_new p.0 p.1 r.0) (λ i. (newly_bound r.0 + (ih i).0, (ih i).1))

-- so batches keep what single calls keep

after_formed : (r : ℕ × Cache) (count : Event → ℕ) (c : Cache) (cs : List CacheCall) → r ≡ cache_steps count c cs → CacheFormed c → CacheFormed r.1
after_formed r count c cs e w = rw e (run_formed c cs w)

pub cache_insert_batch_formed : (ps : List (ℕ × ℕ)) (c : Cache) → CacheFormed c → CacheFormed (cache_insert_batch ps c).1
cache_insert_batch_formed ps c = after_formed (cache_insert_batch ps c) _ c (map insert_of ps) (cache_insert_batch_steps ps c)

pub cache_remove_batch_formed : (ks : List ℕ) (c : Cache) → CacheFormed c → CacheFormed (cache_remove_batch ks c).1
cache_remove_batch_formed ks c = after_formed (cache_remove_batch ks c) _ c (map Remove ks) (cache_remove_batch_steps ks c)

pub cache_touch_batch_formed : (ks : List ℕ) (c : Cache) → CacheFormed c → CacheFormed (cache_touch_batch ks c).1
cache_touch_batch_formed ks c = after_formed (cache_touch_batch ks c) _ c (map Get ks) (cache_touch_batch_steps ks c)
