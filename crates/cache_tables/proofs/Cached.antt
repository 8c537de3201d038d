-- What every call of the cache on sound tables comes down to: its reply, what the tables of the buckets hold, and the values. That
-- the cache after a call is well formed, and that a refused one leaves it, are laws of the ledger.
use mathlib.Core.Path.{◌≡◌, refl, sym, ◌∙◌, subst}
use mathlib.Core.List.{List}
use Prim.Native.Nat.{ℕ}
use lib.ListN.{get_or, set}
use Rattle.numbers.specs.declared.Refusal.{Refusal}
use Rattle.lists.specs.Lists.{In}
use Rattle.ledger.specs.Ledger.{Item, items}
use Rattle.ledger.specs.Buckets.{Reply, done, refused}
use Rattle.ledger.specs.Cache.{Cache, value_of}
use Rattle.ledger.specs.History.{CacheCall, does}
use Rattle.ledger.specs.CacheCalls.{CacheOutcome, event_reply, cache_calls}
use Rattle.ledger.proofs.CacheKept.{does_formed}
use Rattle.ledger.proofs.CacheRefusals.{cache_refused_leaves}
use Rattle.ledger.proofs.Refusals.{done_refused}
use Rattle.ledger.proofs.Slots.{no_twins}
use Rattle.promise.specs.Promise.{Does, Tells}
use Rattle.buckets_tables.specs.declared.State.{State}
use Rattle.buckets_tables.specs.Tables.{Tables}
use Rattle.buckets_tables.specs.Holds.{Holds}
use Rattle.buckets_tables.proofs.Read.{holds_one}
use Rattle.cache_tables.specs.Tables.{CacheTables, with_values, CacheHolds}
use Rattle.cache_tables.specs.Lent.{cache}

-- The tables hold one cache at most.
pub cache_holds_one : (t : CacheTables) (s : State) (c d : Cache) → CacheHolds t s c → CacheHolds t s d → c ≡ d
cache_holds_one t s c d h k = λ i. record { table = holds_one t.base s c.table d.table h.table k.table i; values = (sym h.values ∙ k.values) i }

-- No two bound guests hold one slot.
pub guests_apart : (t : CacheTables) (s : State) (c : Cache) → CacheHolds t s c → (x y : Item) → In x (items c.table.levels) → In y (items c.table.levels) →
    x.slot ≡ y.slot → x.key ≡ y.key
guests_apart t s c h x y i j e = no_twins c.table h.formed.table x y i j e

-- the value in an item's slot, and a store there
pub value_at : (vs : List ℕ) (x : ℕ) (c : Cache) (y : Item) → vs ≡ c.values → y.slot ≡ x → get_or vs x 0 ≡ value_of y c
value_at vs x c y e q = λ i. get_or (e i) (sym q i) 0

pub stored_at : (vs : List ℕ) (x v : ℕ) (c : Cache) (y : Item) → vs ≡ c.values → y.slot ≡ x → set vs x v ≡ set c.values y.slot v
stored_at vs x v c y e q = λ i. set (e i) (sym q i) v

-- a call that refuses whatever the tables hold
pub cache_refuse : (a : CacheCall) (t : CacheTables) (s : State) (why : Refusal) → ((c : Cache) → CacheHolds t s c → event_reply (does a c).0 ≡ refused why) →
    Does cache (cache_calls a) t s (refused why) t s
unfolding cache_calls
cache_refuse a t s why h c w = record {
  answer = sym (h c w);
  holds = subst (CacheHolds t s) (sym (cache_refused_leaves c w.formed a why (h c w))) w;
  leaves = λ b e. (refl, refl);
}

-- what a call leads to from a cache that is held: its reply, the ledger, and the values
abbrev pub Leads : CacheCall → Cache → (ns : List ℕ) → (t' : Tables) → (vs' : List ℕ) → (s' : State) → Type 0
Leads a c ns t' vs' s' = (done ns ≡ event_reply (does a c).0) × Holds t' s' (does a c).1.table × (vs' ≡ (does a c).1.values)

-- a call that is done
pub cache_done : (a : CacheCall) (t : Tables) (vs : List ℕ) (s : State) (ns : List ℕ) (t' : Tables) (vs' : List ℕ) (s' : State) →
    ((c : Cache) → CacheHolds (with_values t vs) s c → Leads a c ns t' vs' s') → Does cache (cache_calls a) (with_values t vs) s (done ns) (with_values t' vs') s'
unfolding cache_calls
cache_done a t vs s ns t' vs' s' h c w = record {
  answer = (h c w).0;
  holds = record { table = (h c w).1; values = (h c w).2; formed = does_formed c a w.formed };
  leaves = λ b e. done_refused ns b e;
}

-- a call that only answers
pub cache_tell : (a : CacheCall) (t : CacheTables) (s : State) (r : Reply) → ((c : Cache) → CacheHolds t s c → r ≡ event_reply (does a c).0) → Tells cache (cache_calls a) t s r
unfolding cache_calls
cache_tell a t s r h = h

-- the same call, told by another reply that is the same
pub cache_told : (f : Cache → CacheOutcome) (t : CacheTables) (s : State) (r q : Reply) (t' : CacheTables) (s' : State) → r ≡ q → Does cache f t s q t' s' → Does cache f t s r t' s'
cache_told f t s r q t' s' e d = subst (λ (p : Reply). Does cache f t s p t' s') (sym e) d
