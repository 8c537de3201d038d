-- A batch as far as it has got: every cache that was held at the start has gone on to one that is held now, from which the items that
-- are left lead to where the whole batch leads. One item more is one single call; with none left the batch is done. A batch is never
-- refused, so nothing is said of what a refusal leaves.
use Rattle.std.proofs.Common.{◌≡◌, refl, sym, ap, ◌∙◌, subst, List, [], ◌∷◌, ℕ, suc, ◌+◌, ◌≤◌, ◌<◌, ◌⊎◌, ⊎_elim, length, get_or, drop, arith}
use lib.ListN.{drop_of_length-le}
use lib.Seq.{drop-cons}
use Rattle.lists.proofs.Tests.{if_lt}
use Rattle.ledger.specs.Buckets.{Reply, done, refused, was_done}
use Rattle.ledger.specs.Cache.{Cache, Insertion, fresh, fresh_out, old, full, Lookup, hit, miss, insert_reply, lookup_reply, newly_bound, was_hit, cache_insert, cache_remove, cache_insert_batch, cache_remove_batch}
use Rattle.ledger.specs.History.{CacheCall, Insert, Remove, does}
use Rattle.ledger.specs.CacheCalls.{cache_calls, counted_cache, insert_batch_call, remove_batch_call}
use Rattle.ledger.proofs.Refusals.{done_refused}
use Rattle.promise.specs.Promise.{Does, Sound}
use Rattle.buckets_tables.specs.declared.State.{State}
use Rattle.cache_tables.specs.Tables.{CacheTables, CacheHolds}
use Rattle.cache_tables.specs.Lent.{cache}
use Rattle.lfu_batches.specs.Batches.{pairs, bound_in}

-- the single call for an item, and what its reply counts, which is 1 at most
pub record Single (A : Type 0) : Type 0 where
  pub call : A → CacheCall
  pub counts : Reply → ℕ
  pub once : (r : Reply) → counts r ≤ 1

module _ {A : Type 0} (c : Single A) where
  abbrev pub batch : List A → Cache → ℕ × Cache
  batch [] d = (0, d)
  batch (x ∷ xs) d =
      let first = cache_calls (c.call x) d in
      let rest = batch xs first.1 in
      (c.counts first.0 + rest.0, rest.1)

  -- what a cache has become, n items counted and some left
  pub record Onward (all left : List A) (d : Cache) (n : ℕ) (t : CacheTables) (s : State) : Type 0 where
    pub now_held : Cache
    pub holds : CacheHolds t s now_held
    pub count : (batch all d).0 ≡ n + (batch left now_held).0
    pub after : (batch all d).1 ≡ (batch left now_held).1

  pub record Batching (all left : List A) (t : CacheTables) (s : State) (n : ℕ) (t' : CacheTables) (s' : State) : Type 0 where
    -- each item counts once at most
    pub few : n + length left ≤ length all
    pub onward : (d : Cache) → CacheHolds t s d → Onward all left d n t' s'

  pub batching_start : (all left : List A) → left ≡ all → (t : CacheTables) (s : State) → Batching all left t s 0 t s
  batching_start all left e t s = rw e (record {
    few = omega arith;
    onward = λ d h. record { now_held = d; holds = h; count = omega arith; after = refl };
  })

  module _ (all left : List A) (t : CacheTables) (s : State) (n : ℕ) (t' : CacheTables) (s' : State) (b : Batching all left t s n t' s') where
    -- what the next call asks
    pub batching_sound : Sound cache t s → Sound cache t' s'
    batching_sound w = let o = b.onward w.0 w.1 in (o.now_held, o.holds)

    module _ (x : A) (rest : List A) (next : left ≡ x ∷ rest) where
      -- its answer can be counted
      pub batching_few : (r : Reply) → n + c.counts r ≤ length all
      batching_few r = let a = b.few in let e = c.once r in let q = ap (λ (xs : List A). length xs) next in omega arith

      pub batching_more : (r : Reply) (t'' : CacheTables) (s'' : State) → Does cache (cache_calls (c.call x)) t' s' r t'' s'' →
          (m : ℕ) → m ≡ c.counts r → Batching all rest t s (n + m) t'' s''
      unfolding cache_calls
      batching_more r t'' s'' done-so m is = record {
        few = let a = b.few in let e = c.once r in let q = ap (λ (xs : List A). length xs) next in omega arith;
        onward = λ d h.
            let o = b.onward d h in
            let step = done-so o.now_held o.holds in
            let first = ap c.counts step.answer in
            let now-left = ap (λ (xs : List A). batch xs o.now_held) next in
            record {
              now_held = (cache_calls (c.call x) o.now_held).1;
              holds = step.holds;
              count = let p = o.count in let q = ap (λ (z : ℕ × Cache). z.0) now-left in omega arith;
              after = o.after ∙ ap (λ (z : ℕ × Cache). z.1) now-left;
            };
      }

    pub batching_end : left ≡ [] → Does cache (λ d. counted_cache (batch all d)) t s (done (n ∷ [])) t' s'
    batching_end none_left d h =
        let o = b.onward d h in
        let rest = ap (λ (xs : List A). batch xs o.now_held) none_left in
        let p : n ≡ (batch all d).0 = (let e = o.count in let q = ap (λ (z : ℕ × Cache). z.0) rest in omega arith) in
        record {
          answer = ap (λ (m : ℕ). done (m ∷ [])) p;
          holds = subst (CacheHolds t' s') (sym (o.after ∙ ap (λ (z : ℕ × Cache). z.1) rest)) o.holds;
          leaves = λ a e. done_refused (n ∷ []) a e;
        }

-- What is left of a slice, by an index, and of two, by what is left of each

pub left_keys : (ks : List ℕ) (i : ℕ) → i < length ks → drop i ks ≡ get_or ks i 0 ∷ drop (i + 1) ks
left_keys ks i below = let next : suc i ≡ i + 1 = omega arith in drop-cons ks i 0 below ∙ ap (λ (m : ℕ). get_or ks i 0 ∷ drop m ks) next

pub no_keys : (ks : List ℕ) (i : ℕ) → length ks ≤ i → drop i ks ≡ []
no_keys ks i all = drop_of_length-le ks all

pub left_pairs : (k v : ℕ) (ks vs ks' vs' : List ℕ) → (ks ≡ k ∷ ks') × (vs ≡ v ∷ vs') → pairs ks vs ≡ (k, v) ∷ pairs ks' vs'
left_pairs k v ks vs ks' vs' e j = pairs (e.0 j) (e.1 j)

none_given : (ks : List ℕ) → pairs ks [] ≡ []
none_given [] = refl
none_given (k ∷ ks) = refl

pub no_pairs : (ks vs : List ℕ) → (ks ≡ []) ⊎ (vs ≡ []) → pairs ks vs ≡ []
no_pairs ks vs e =
    ⊎_elim (λ p. ap (λ (xs : List ℕ). pairs xs vs) p) (λ q. ap (λ (xs : List ℕ). pairs ks xs) q ∙ none_given ks) e

pub length_pairs : (ks vs : List ℕ) → length (pairs ks vs) ≤ length ks
length_pairs [] vs = omega arith
length_pairs (k ∷ ks) [] = omega arith
length_pairs (k ∷ ks) (v ∷ vs) = let a = length_pairs ks vs in omega arith

-- The batches of inserts and of removals

pub bound_few : (r : Reply) → bound_in r ≤ 1
bound_few (done []) = omega arith
bound_few (done (n ∷ ns)) = if_lt (λ (m : ℕ). m ≤ 1) n 2 (λ l. omega arith) (λ l. omega arith)
bound_few (refused a) = omega arith

pub done_few : (r : Reply) → was_done r ≤ 1
done_few (done ns) = omega arith
done_few (refused a) = omega arith

abbrev pub inserts : Single (ℕ × ℕ)
inserts = record { call = λ p. Insert p.0 p.1; counts = bound_in; once = bound_few }

abbrev pub removes : Single ℕ
removes = record { call = Remove; counts = was_done; once = done_few }

insert_counts : (a : Insertion) → bound_in (insert_reply a) ≡ newly_bound a
insert_counts fresh = refl
insert_counts (fresh_out k) = refl
insert_counts (old v) = refl
insert_counts full = refl

remove_counts : (a : Lookup) → was_done (lookup_reply a) ≡ was_hit a
remove_counts (hit v) = refl
remove_counts miss = refl

inserts_same : (ps : List (ℕ × ℕ)) (d : Cache) → batch inserts ps d ≡ cache_insert_batch ps d
unfolding cache_insert_batch cache_calls does
inserts_same [] d = refl
inserts_same (p ∷ ps) d =
    let r = cache_insert p.0 p.1 d in
    let rest = inserts_same ps r.1 in
    λ i. (insert_counts r.0 i + (rest i).0, (rest i).1)

removes_same : (ks : List ℕ) (d : Cache) → batch removes ks d ≡ cache_remove_batch ks d
unfolding cache_remove_batch cache_calls does
removes_same [] d = refl
removes_same (k ∷ ks) d =
    let r = cache_remove k d in
    let rest = removes_same ks r.1 in
    λ i. (remove_counts r.0 i + (rest i).0, (rest i).1)

same_does : (f g : Cache → ℕ × Cache) → ((d : Cache) → f d ≡ g d) → (t : CacheTables) (s : State) (r : Reply) (t' : CacheTables) (s' : State) →
    Does cache (λ d. counted_cache (f d)) t s r t' s' → Does cache (λ d. counted_cache (g d)) t s r t' s'
same_does f g same t s r t' s' d c h =
    let w = d c h in
    record {
      answer = w.answer ∙ ap (λ (z : ℕ × Cache). (counted_cache z).0) (same c);
      holds = subst (λ (z : ℕ × Cache). CacheHolds t' s' z.1) (same c) w.holds;
      leaves = w.leaves;
    }

pub inserts_end : (all left : List (ℕ × ℕ)) (t : CacheTables) (s : State) (n : ℕ) (t' : CacheTables) (s' : State) → left ≡ [] →
    Batching inserts all left t s n t' s' → Does cache (insert_batch_call all) t s (done (n ∷ [])) t' s'
unfolding insert_batch_call
inserts_end all left t s n t' s' none_left b =
    same_does (batch inserts all) (cache_insert_batch all) (inserts_same all) t s _ t' s' (batching_end inserts all left t s n t' s' b none_left)

pub removes_end : (all left : List ℕ) (t : CacheTables) (s : State) (n : ℕ) (t' : CacheTables) (s' : State) → left ≡ [] →
    Batching removes all left t s n t' s' → Does cache (remove_batch_call all) t s (done (n ∷ [])) t' s'
unfolding remove_batch_call
removes_end all left t s n t' s' none_left b =
    same_does (batch removes all) (cache_remove_batch all) (removes_same all) t s _ t' s' (batching_end removes all left t s n t' s' b none_left)
