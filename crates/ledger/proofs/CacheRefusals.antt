-- Each refusal of the cache is given exactly when document 01 says, and a refused call, a peek and a length leave the cache as it
-- was. As Refusals.antt for the buckets; FULL comes from bound and free slots making up the capacity.
use mathlib.Core.Path.{◌≡◌, refl, ap, subst}
use mathlib.Core.Logic.{◌↔◌}
use mathlib.Core.Option.{Option, none, some}
use mathlib.Core.List.{List, [], ◌∷◌}
use Prim.Native.Nat.{ℕ}
use native.Mathlib.Omega.{arith}
use lib.ListN.{length}
use Rattle.numbers.specs.declared.Refusal.{Refusal}
use Rattle.numbers.specs.declared.Refusal.TheVariants.{Absent, Full, Empty}
use Rattle.ledger.specs.Ledger.{Item, lookup, if_found, lowest, size}
use Rattle.ledger.specs.Buckets.{refused}
use Rattle.ledger.specs.Cache.{Cache, CacheFormed, insert_reply, Lookup, hit, miss, lookup_reply, Least, least, nothing, least_reply, insert_full, insert_new, insert_at, cache_insert, cache_get, cache_peek, cache_remove, cache_reset, cache_peek_lfu, cache_evict}
use Rattle.ledger.specs.History.{CacheCall, Insert, Get, Peek, Remove, Reset, PeekLfu, Evict, Clear, Len, does}
use Rattle.ledger.specs.CacheCalls.{event_reply}
use Rattle.ledger.specs.Refusals.{Unbound, CacheRefused, gets, peeks, removes, resets, inserts, peeks_lfu, evicts}
use Rattle.ledger.proofs.Rising.{lowest_none, lowest_some}
use Rattle.ledger.proofs.Slots.{size_and_free}
use Rattle.ledger.proofs.Kept.{by_found}
use Rattle.ledger.proofs.Refusals.{done_refused, same_refusal, unbound_of, of_unbound, empty_of, of_empty}

-- a call that hits where its key is found, and one that answers the least
abbrev hit_or : Option Item → Cache → (Item → ℕ) → (Item → Cache) → Lookup × Cache
hit_or o c v m = if_found {A = Lookup × Cache} o (miss, c) (λ x. (hit (v x), m x))

abbrev least_or : Option Item → Cache → (Item → ℕ) → (Item → Cache) → Least × Cache
least_or o c v m = if_found {A = Least × Cache} o (nothing, c) (λ x. (least x.key (v x), m x))

missed : (o : Option Item) (c : Cache) (v : Item → ℕ) (m : Item → Cache) (a : Refusal) → lookup_reply (hit_or o c v m).0 ≡ refused a →
    (o ≡ none) × (Absent ≡ a) × ((hit_or o c v m).1 ≡ c)
missed none c v m a e = (refl, same_refusal Absent a e, refl)
missed (some x) c v m a e = done_refused (v x ∷ []) a e

none_least : (o : Option Item) (c : Cache) (v : Item → ℕ) (m : Item → Cache) (a : Refusal) → least_reply (least_or o c v m).0 ≡ refused a →
    (o ≡ none) × (Empty ≡ a) × ((least_or o c v m).1 ≡ c)
none_least none c v m a e = (refl, same_refusal Empty a e, refl)
none_least (some x) c v m a e = done_refused _ a e

module _ (c : Cache) (w : CacheFormed c) where
  -- `insert` is FULL for an unbound key at capacity 0 alone

  full_why : (k v : ℕ) (o : Option Item) (a : Refusal) → lowest c.table.levels ≡ o → c.table.free ≡ [] →
      insert_reply (insert_full o k v c).0 ≡ refused a → (c.table.capacity ≡ 0) × (Full ≡ a) × ((insert_full o k v c).1 ≡ c)
  full_why k v none a e f h =
      let p = size_and_free c.table w.table in
      let q = ap length f in
      let r = lowest_none 0 c.table.levels w.table.rising e in
      (omega arith, same_refusal Full a h, refl)
  full_why k v (some x) a e f h = done_refused _ a h

  new_why : (k v : ℕ) (free : List ℕ) (a : Refusal) → c.table.free ≡ free → insert_reply (insert_new free k v c).0 ≡ refused a →
      (c.table.capacity ≡ 0) × (Full ≡ a) × ((insert_new free k v c).1 ≡ c)
  new_why k v [] a f h = full_why k v (lowest c.table.levels) a refl f h
  new_why k v (s ∷ rest) a f h = done_refused _ a h

  at_why : (k v : ℕ) (o : Option Item) (a : Refusal) → insert_reply (insert_at o k v c).0 ≡ refused a →
      (o ≡ none) × (c.table.capacity ≡ 0) × (Full ≡ a) × ((insert_at o k v c).1 ≡ c)
  at_why k v none a h = let r = new_why k v c.table.free a refl h in (refl, r.0, r.1, r.2)
  at_why k v (some x) a h = done_refused _ a h

  full_by : (k v : ℕ) (o : Option Item) → lowest c.table.levels ≡ o → c.table.capacity ≡ 0 → insert_reply (insert_full o k v c).0 ≡ refused Full
  full_by k v none e h = refl
  full_by k v (some x) e h =
      let p = size_and_free c.table w.table in let r = lowest_some c.table.levels x e in absurd (omega arith)

  new_by : (k v : ℕ) (free : List ℕ) → c.table.free ≡ free → c.table.capacity ≡ 0 → insert_reply (insert_new free k v c).0 ≡ refused Full
  new_by k v [] f h = full_by k v (lowest c.table.levels) refl h
  new_by k v (s ∷ rest) f h = let p = size_and_free c.table w.table in let q = ap length f in absurd (omega arith)

  -- why a call was refused, and that it left the cache
  key_why : (k : ℕ) (call : CacheCall) (v : Item → ℕ) (m : Item → Cache) (a : Refusal) → (Unbound k c.table → CacheRefused c call Absent) →
      lookup_reply (hit_or (lookup k c.table) c v m).0 ≡ refused a → CacheRefused c call a × ((hit_or (lookup k c.table) c v m).1 ≡ c)
  key_why k call v m a r e =
      let p = missed (lookup k c.table) c v m a e in (subst (CacheRefused c call) p.1 (r (unbound_of c.table w.table k p.0)), p.2)

  least_why : (call : CacheCall) (v : Item → ℕ) (m : Item → Cache) (a : Refusal) → (size c.table ≡ 0 → CacheRefused c call Empty) →
      least_reply (least_or (lowest c.table.levels) c v m).0 ≡ refused a → CacheRefused c call a × ((least_or (lowest c.table.levels) c v m).1 ≡ c)
  least_why call v m a r e =
      let p = none_least (lowest c.table.levels) c v m a e in (subst (CacheRefused c call) p.1 (r (empty_of c.table w.table p.0)), p.2)

  why : (call : CacheCall) (a : Refusal) → event_reply (does call c).0 ≡ refused a → CacheRefused c call a × ((does call c).1 ≡ c)
  unfolding does cache_insert cache_get cache_peek cache_remove cache_reset cache_peek_lfu cache_evict
  why (Insert k v) a e =
      let p = at_why k v (lookup k c.table) a e in
      (subst (CacheRefused c (Insert k v)) p.2 (inserts k v (unbound_of c.table w.table k p.0) p.1), p.3)
  why (Get k) a e = key_why k (Get k) _ _ a (gets k) e
  why (Peek k) a e = key_why k (Peek k) _ _ a (peeks k) e
  why (Remove k) a e = key_why k (Remove k) _ _ a (removes k) e
  why (Reset k) a e = key_why k (Reset k) _ _ a (resets k) e
  why PeekLfu a e = least_why PeekLfu _ _ a peeks_lfu e
  why Evict a e = least_why Evict _ _ a evicts e
  why Clear a e = done_refused _ a e
  why Len a e = done_refused _ a e

  nothing_hit : (k : ℕ) (v : Item → ℕ) (m : Item → Cache) → Unbound k c.table → lookup_reply (hit_or (lookup k c.table) c v m).0 ≡ refused Absent
  nothing_hit k v m h = ap (λ o. lookup_reply (hit_or o c v m).0) (of_unbound c.table w.table k h)

  nothing_least : (v : Item → ℕ) (m : Item → Cache) → size c.table ≡ 0 → least_reply (least_or (lowest c.table.levels) c v m).0 ≡ refused Empty
  nothing_least v m h = ap (λ o. least_reply (least_or o c v m).0) (of_empty c.table w.table h)

  refuses : (call : CacheCall) (a : Refusal) → CacheRefused c call a → event_reply (does call c).0 ≡ refused a
  unfolding does cache_insert cache_get cache_peek cache_remove cache_reset cache_peek_lfu cache_evict
  refuses _ _ (gets k h) = nothing_hit k _ _ h
  refuses _ _ (peeks k h) = nothing_hit k _ _ h
  refuses _ _ (removes k h) = nothing_hit k _ _ h
  refuses _ _ (resets k h) = nothing_hit k _ _ h
  refuses _ _ (inserts k v h z) =
      rw (of_unbound c.table w.table k h) (new_by k v c.table.free refl z)
  refuses _ _ (peeks_lfu h) = nothing_least _ _ h
  refuses _ _ (evicts h) = nothing_least _ _ h

  -- Each refusal of the cache is given exactly when document 01 says.
  pub cache_refused_exactly : (call : CacheCall) (a : Refusal) → (event_reply (does call c).0 ≡ refused a) ↔ CacheRefused c call a
  cache_refused_exactly call a = (λ e. (why call a e).0, refuses call a)

  pub cache_refused_leaves : (call : CacheCall) (a : Refusal) → event_reply (does call c).0 ≡ refused a → (does call c).1 ≡ c
  cache_refused_leaves call a e = (why call a e).1

-- Queries leave the cache

-- the calls that only answer
pub data CacheQuery : CacheCall → Type 0 where
  peek_asks : (k : ℕ) → CacheQuery (Peek k)
  peek_lfu_asks : CacheQuery PeekLfu
  len_asks : CacheQuery Len

pub cache_queries_leave : (c : Cache) (call : CacheCall) → CacheQuery call → (does call c).1 ≡ c
unfolding does cache_peek cache_peek_lfu
cache_queries_leave c _ (peek_asks k) = by_found (λ (o : Lookup × Cache). o.1 ≡ c) (lookup k c.table) _ _ (λ e. refl) (λ x e. refl)
cache_queries_leave c _ peek_lfu_asks = by_found (λ (o : Least × Cache). o.1 ≡ c) (lowest c.table.levels) _ _ (λ e. refl) (λ x e. refl)
cache_queries_leave c _ len_asks = refl
