-- The "exactly when" column of document 01's table, for the calls of the buckets and of the cache. That each call is refused
-- exactly then is `refused_exactly` of proofs/Refusals.antt and `cache_refused_exactly` of proofs/CacheRefusals.antt.
use Rattle.std.specs.Prelude.{◌≡◌, ℕ, ◌≤◌}
use Rattle.numbers.specs.declared.Refusal.{Refusal}
use Rattle.numbers.specs.declared.Refusal.TheVariants.{Absent, Present, Full, Empty}
use Rattle.ledger.specs.Ledger.{Ledger, items, size, keyed, slotted}
use Rattle.ledger.specs.BucketCalls.{PeekMin, MinFreq, Frequency, EntryEpoch, WalkStep, BucketCall, Ask, Insert, Touch, Remove, PopMin, SetEntryEpoch}
use Rattle.ledger.specs.Cache.{Cache}
use Rattle.ledger.specs.History.{CacheCall}
use Rattle.ledger.specs.History

abbrev pub Bound : ℕ → Ledger → Type 0
Bound k l = 1 ≤ keyed k (items l.levels)

abbrev pub Unbound : ℕ → Ledger → Type 0
Unbound k l = keyed k (items l.levels) ≡ 0

pub data Refused (l : Ledger) : BucketCall → Refusal → Type 0 where
  -- the key is not bound, in a call that needs it; a walk's step from no bound slot
  touches : (cap k : ℕ) → Unbound k l → Refused l (Touch cap k) Absent
  removes : (k : ℕ) → Unbound k l → Refused l (Remove k) Absent
  asks_frequency : (k : ℕ) → Unbound k l → Refused l (Ask (Frequency k)) Absent
  asks_epoch : (k : ℕ) → Unbound k l → Refused l (Ask (EntryEpoch k)) Absent
  sets_epoch : (k n : ℕ) → Unbound k l → Refused l (SetEntryEpoch k n) Absent
  steps : (s : ℕ) → slotted s (items l.levels) ≡ 0 → Refused l (Ask (WalkStep s)) Absent
  -- bucket insert of a bound key; of an absent key with no free slot
  inserts : (k : ℕ) → Bound k l → Refused l (Insert k) Present
  inserts_into : (k : ℕ) → Unbound k l → size l ≡ l.capacity → Refused l (Insert k) Full
  -- no bound key
  pops : size l ≡ 0 → Refused l PopMin Empty
  peeks : size l ≡ 0 → Refused l (Ask PeekMin) Empty
  asks_lowest : size l ≡ 0 → Refused l (Ask MinFreq) Empty

pub data CacheRefused (c : Cache) : CacheCall → Refusal → Type 0 where
  -- the key is not bound
  gets : (k : ℕ) → Unbound k c.table → CacheRefused c (History.Get k) Absent
  peeks : (k : ℕ) → Unbound k c.table → CacheRefused c (History.Peek k) Absent
  removes : (k : ℕ) → Unbound k c.table → CacheRefused c (History.Remove k) Absent
  resets : (k : ℕ) → Unbound k c.table → CacheRefused c (History.Reset k) Absent
  -- cache insert of an unbound key at capacity 0
  inserts : (k v : ℕ) → Unbound k c.table → c.table.capacity ≡ 0 → CacheRefused c (History.Insert k v) Full
  -- no bound key
  peeks_lfu : size c.table ≡ 0 → CacheRefused c History.PeekLfu Empty
  evicts : size c.table ≡ 0 → CacheRefused c History.Evict Empty
