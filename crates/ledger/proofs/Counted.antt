-- The guests counted from the calls are the keys that the ledger binds. A well-formed cache's bound keys are known from its free
-- slots, so each call need only be looked at for what it does to those.
use mathlib.Core.Path.{◌≡◌, refl, ap, ◌∙◌}
use mathlib.Core.Option.{Option, none, some}
use mathlib.Core.List.{List, [], ◌∷◌}
use Prim.Native.Nat.{ℕ, ◌+◌, ◌≤◌, ◌-◌}
use native.Mathlib.Omega.{arith}
use lib.ListN.{length, length-append}
use Rattle.lists.specs.Lists.{In}
use Rattle.lists.proofs.Members.{in_length}
use Rattle.ledger.specs.Ledger.{Level, Item, items, lookup, if_found, size, lowest}
use Rattle.ledger.specs.Cache.{Cache, CacheFormed, new_cache, Lookup, miss, Least, least, nothing, value_of, unbind, insert_full, insert_new, insert_at, cache_insert, cache_get, cache_peek, cache_remove, cache_reset, cache_peek_lfu, cache_evict, cache_clear}
use Rattle.ledger.specs.History.{CacheCall, Insert, Get, Peek, Remove, Reset, PeekLfu, Evict, Clear, Len, Event, inserted, got, peeked, removed, reset, peeked_lfu, evicted, does, log, after_all, says, recount, count_from, guests}
use Rattle.ledger.specs.Demand3.{EmptyCache}
use Rattle.ledger.proofs.Items.{found_in}
use Rattle.ledger.proofs.Rising.{lowest_some}
use Rattle.ledger.proofs.Slots.{size_and_free}
use Rattle.ledger.proofs.CacheKept.{new_cache_formed, does_formed, does_capacity}

-- n guests and the free slots make up the capacity
abbrev Counts : ℕ → Cache → Cache → Type 0
Counts n c d = n + length d.table.free ≡ c.table.capacity

module _ (c : Cache) (w : CacheFormed c) where
  counts : Counts (size c.table) c c
  counts = size_and_free c.table w.table

  some_bound : (x : Item) → In x (items c.table.levels) → 1 ≤ size c.table
  some_bound x i = in_length x (items c.table.levels) i

  count_full : (k y : ℕ) (o : Option Item) → lowest c.table.levels ≡ o → c.table.free ≡ [] →
      Counts (recount (says (inserted k y (insert_full o k y c).0)) (size c.table)) c (insert_full o k y c).1
  count_full k y none e q = counts
  count_full k y (some x) e q =
      let z = ap length q in let u = counts in let b = lowest_some c.table.levels x e in omega arith

  count_new : (k y : ℕ) (free : List ℕ) → c.table.free ≡ free →
      Counts (recount (says (inserted k y (insert_new free k y c).0)) (size c.table)) c (insert_new free k y c).1
  count_new k y [] q = count_full k y (lowest c.table.levels) refl q
  count_new k y (s ∷ rest) q = let z = ap length q in let u = counts in omega arith

  count_insert : (k y : ℕ) (o : Option Item) → Counts (recount (says (inserted k y (insert_at o k y c).0)) (size c.table)) c (insert_at o k y c).1
  count_insert k y none = count_new k y c.table.free refl
  count_insert k y (some x) = counts

  -- a call that needs its key bound: a miss says nothing and frees nothing
  count_asked : (k : ℕ) (told : Lookup → Event) (f : Item → Lookup × Cache) → says (told miss) ≡ [] →
      ((x : Item) → 1 ≤ size c.table → Counts (recount (says (told (f x).0)) (size c.table)) c (f x).1) →
      (o : Option Item) → lookup k c.table ≡ o →
      let r = if_found {A = Lookup × Cache} o (miss, c) f in Counts (recount (says (told r.0)) (size c.table)) c r.1
  count_asked k told f z g none e = rw z counts
  count_asked k told f z g (some x) e = g x (some_bound x (found_in k (items c.table.levels) x e).0)

  count_peek_lfu : (o : Option Item) →
      let r = if_found {A = Least × Cache} o (nothing, c) (λ x. (least x.key (value_of x c), c)) in
      Counts (recount (says (peeked_lfu r.0)) (size c.table)) c r.1
  count_peek_lfu none = counts
  count_peek_lfu (some x) = counts

  -- a key that goes leaves its slot
  count_gone : (x : Item) → 1 ≤ size c.table → Counts (size c.table - 1) c (unbind x c)
  count_gone x b = let u = counts in omega (arith, length-append c.table.free (x.slot ∷ []))

  count_evict : (o : Option Item) → lowest c.table.levels ≡ o →
      let r = if_found {A = Least × Cache} o (nothing, c) (λ x. (least x.key (value_of x c), unbind x c)) in
      Counts (recount (says (evicted r.0)) (size c.table)) c r.1
  count_evict none e = counts
  count_evict (some x) e = count_gone x (lowest_some c.table.levels x e)

  count_free : (a : CacheCall) → Counts (recount (says (does a c).0) (size c.table)) c (does a c).1
  unfolding does cache_insert cache_get cache_peek cache_remove cache_reset cache_peek_lfu cache_evict cache_clear
  count_free (Insert k y) = count_insert k y (lookup k c.table)
  count_free (Get k) = count_asked k (got k) _ refl (λ x b. counts) (lookup k c.table) refl
  count_free (Peek k) = count_asked k (peeked k) _ refl (λ x b. counts) (lookup k c.table) refl
  count_free (Remove k) = count_asked k (removed k) _ refl count_gone (lookup k c.table) refl
  count_free (Reset k) = count_asked k (reset k) _ refl (λ x b. let u = counts in omega arith) (lookup k c.table) refl
  count_free PeekLfu = count_peek_lfu (lowest c.table.levels)
  count_free Evict = count_evict (lowest c.table.levels) refl
  count_free Clear = let u = size_and_free (new_cache c.table.capacity).table (new_cache_formed c.table.capacity).table in omega arith
  count_free Len = counts

  count_step : (a : CacheCall) → size (does a c).1.table ≡ recount (says (does a c).0) (size c.table)
  count_step a =
      let p = count_free a in
      let q = size_and_free (does a c).1.table (does_formed c a w).table in
      let r = does_capacity c a in
      omega arith

count_run : (c : Cache) (as' : List CacheCall) → CacheFormed c → size (after_all c as').table ≡ count_from (size c.table) (log c as')
count_run c [] w = refl
count_run c (a ∷ as') w =
    count_run (does a c).1 as' (does_formed c a w)
    ∙ ap (λ (n : ℕ). count_from n (log (does a c).1 as')) (count_step c w a)

pub guests_counted : (c : Cache) → EmptyCache c → (as' : List CacheCall) → size (after_all c as').table ≡ guests (log c as')
guests_counted c e as' =
    count_run c as' e.formed ∙ ap (λ (ls : List Level). count_from (length (items ls)) (log c as')) e.nobody
