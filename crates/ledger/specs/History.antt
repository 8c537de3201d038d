-- Histories: single cache calls with their answers, and what these alone say of a key.
use Rattle.std.specs.Prelude.{cond, ◌⊎◌, ◌≡◌, List, [], ◌∷◌, ℕ, ◌+◌, ◌-◌, eqb}
use Rattle.ledger.specs.Cache.{Cache, Insertion, fresh, fresh_out, old, full, Lookup, hit, miss, Least, least, nothing, cache_insert, cache_get, cache_peek, cache_remove, cache_reset, cache_peek_lfu, cache_evict, cache_clear, cache_len}

-- a single call
pub data CacheCall : Type 0 where
  Insert : (key value : ℕ) → CacheCall
  Get : (key : ℕ) → CacheCall
  Peek : (key : ℕ) → CacheCall
  Remove : (key : ℕ) → CacheCall
  Reset : (key : ℕ) → CacheCall
  PeekLfu : CacheCall
  Evict : CacheCall
  Clear : CacheCall
  Len : CacheCall

-- a single call that was made, with its answer
pub data Event : Type 0 where
  inserted : (key value : ℕ) → Insertion → Event
  got : (key : ℕ) → Lookup → Event
  peeked : (key : ℕ) → Lookup → Event
  removed : (key : ℕ) → Lookup → Event
  reset : (key : ℕ) → Lookup → Event
  peeked_lfu : Least → Event
  evicted : Least → Event
  cleared : Event
  measured : (count : ℕ) → Event

unfoldable pub does : CacheCall → Cache → Event × Cache
does (Insert k v) c = let r = cache_insert k v c in (inserted k v r.0, r.1)
does (Get k) c = let r = cache_get k c in (got k r.0, r.1)
does (Peek k) c = let r = cache_peek k c in (peeked k r.0, r.1)
does (Remove k) c = let r = cache_remove k c in (removed k r.0, r.1)
does (Reset k) c = let r = cache_reset k c in (reset k r.0, r.1)
does PeekLfu c = let r = cache_peek_lfu c in (peeked_lfu r.0, r.1)
does Evict c = let r = cache_evict c in (evicted r.0, r.1)
does Clear c = (cleared, cache_clear c)
does Len c = (measured (cache_len c), c)

-- a sequence of calls: what was called and answered, and the cache after it
abbrev pub log : Cache → List CacheCall → List Event
log c [] = []
log c (a ∷ as') = let r = does a c in r.0 ∷ log r.1 as'

abbrev pub after_all : Cache → List CacheCall → Cache
after_all c [] = c
after_all c (a ∷ as') = after_all (does a c).1 as'

-- What a call and its answer say: a hit is a `get` of a bound key; a binding is an `insert` of an unbound key or a reset;
-- evicted means by `insert` or `evict_min_freq`, not by `remove` or `clear`. Only a call answered DONE counts.
pub data Change : Type 0 where
  binds : ℕ → Change
  hits : ℕ → Change
  evicts : ℕ → Change
  leaves : ℕ → Change
  empties : Change

abbrev pub says : Event → List Change
says (inserted k v fresh) = binds k ∷ []
says (inserted k v (fresh_out victim)) = evicts victim ∷ binds k ∷ []
says (inserted k v (old w)) = []
says (inserted k v full) = []
says (got k (hit v)) = hits k ∷ []
says (got k miss) = []
says (peeked k a) = []
says (removed k (hit v)) = leaves k ∷ []
says (removed k miss) = []
says (reset k (hit f)) = leaves k ∷ binds k ∷ []
says (reset k miss) = []
says (peeked_lfu a) = []
says (evicted (least k v)) = evicts k ∷ []
says (evicted nothing) = []
says cleared = empties ∷ []
says (measured n) = []

-- how many keys are newly bound
abbrev pub bindings : List Change → ℕ
bindings [] = 0
bindings (binds x ∷ cs) = 1 + bindings cs
bindings (hits x ∷ cs) = bindings cs
bindings (evicts x ∷ cs) = bindings cs
bindings (leaves x ∷ cs) = bindings cs
bindings (empties ∷ cs) = bindings cs

-- how a key stands: unbound, or bound, with its hits since the binding and the time of its last hit or binding
pub data Standing : Type 0 where
  unbound : Standing
  guest : (count last : ℕ) → Standing

abbrev pub struck : ℕ → Standing → Standing
struck now unbound = unbound
struck now (guest n last) = guest (n + 1) now

-- what one change at the time `now` does to the standing of key k
abbrev pub changed : ℕ → ℕ → Change → Standing → Standing
changed k now (binds x) s = cond (eqb k x) (guest 0 now) s
changed k now (hits x) s = cond (eqb k x) (struck now s) s
changed k now (evicts x) s = cond (eqb k x) unbound s
changed k now (leaves x) s = cond (eqb k x) unbound s
changed k now empties s = unbound

abbrev pub next : ℕ → ℕ → List Change → Standing → Standing
next k now [] s = s
next k now (c ∷ cs) s = next k now cs (changed k now c s)

-- the time of a call is the number of calls before it
abbrev pub follow : ℕ → ℕ → Standing → List Event → Standing
follow k now s [] = s
follow k now s (e ∷ es) = follow k (now + 1) (next k now (says e) s) es

-- the standing of a key after a history, oldest call first
abbrev pub standing : ℕ → List Event → Standing
standing k es = follow k 0 unbound es

-- how many guests are bound after a history
abbrev pub recounted : Change → ℕ → ℕ
recounted (binds x) n = n + 1
recounted (hits x) n = n
recounted (evicts x) n = n - 1
recounted (leaves x) n = n - 1
recounted empties n = 0

abbrev pub recount : List Change → ℕ → ℕ
recount [] n = n
recount (c ∷ cs) n = recount cs (recounted c n)

abbrev pub count_from : ℕ → List Event → ℕ
count_from n [] = n
count_from n (e ∷ es) = count_from (recount (says e) n) es

abbrev pub guests : List Event → ℕ
guests es = count_from 0 es

-- key k is evicted by a call; in a run of calls
abbrev pub EvictsBy : List Change → ℕ → Type 0
EvictsBy [] k = ⊥
EvictsBy (binds x ∷ cs) k = EvictsBy cs k
EvictsBy (hits x ∷ cs) k = EvictsBy cs k
EvictsBy (evicts x ∷ cs) k = (k ≡ x) ⊎ EvictsBy cs k
EvictsBy (leaves x ∷ cs) k = EvictsBy cs k
EvictsBy (empties ∷ cs) k = EvictsBy cs k

abbrev pub Evicts : Event → ℕ → Type 0
Evicts e k = EvictsBy (says e) k

abbrev pub EvictedIn : List Event → ℕ → Type 0
EvictedIn [] k = ⊥
EvictedIn (e ∷ es) k = Evicts e k ⊎ EvictedIn es k
