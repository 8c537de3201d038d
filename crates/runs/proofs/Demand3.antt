-- Demand 3 at the code. A promise kept on tables that hold a cache is the cache's own step, so a run of calls is the ledger's run; a
-- reply says which event it was; the rest is the ledger's theorem.
use mathlib.Core.Path.{◌≡◌, refl, sym, ap, ◌∙◌, subst}
use mathlib.Core.List.{List, [], ◌∷◌, map}
use Prim.Native.Nat.{ℕ}
use Rattle.std.proofs.Common.{Ok}
use native.Mathlib.Omega.{arith}
use lib.ListN.{length}
use Rattle.ledger.specs.Ledger.{Entry, Level, tag, items, NonEmpty, Rising}
use Rattle.ledger.specs.Buckets.{Reply}
use Rattle.ledger.specs.Cache.{Cache, new_cache, Insertion, fresh, fresh_out, old, full, Lookup, hit, miss, Least, least, nothing, insert_reply, lookup_reply, least_reply, cache_insert, cache_get, cache_peek, cache_remove, cache_reset, cache_peek_lfu, cache_evict}
use Rattle.ledger.specs.History.{CacheCall, Insert, Get, Peek, Remove, Reset, PeekLfu, Evict, Clear, Len, inserted, got, peeked, removed, reset, peeked_lfu, evicted, does, log, after_all}
use Rattle.ledger.specs.CacheCalls.{event_reply, cache_calls}
use Rattle.ledger.proofs.Runs.{new_empty}
use Rattle.ledger.proofs.FirstSentence.{first_sentence}
use Rattle.ledger.proofs.SecondSentence.{second_sentence}
use Rattle.promise.specs.Promise.{ledger, By, DoesOn, Makes}
use Rattle.promise.specs.Making.{Sizing, too_large, too_short, fitting, MadeBy}
use Rattle.promise.proofs.Agree.{reads_one}
use Rattle.buckets_tables.specs.declared.State.{State}
use Rattle.buckets_tables.specs.Tables.{Sized}
use Rattle.cache_tables.specs.Tables.{CacheTables, CacheHolds}
use Rattle.cache_tables.specs.Lent.{cache}
use Rattle.cache_tables.proofs.Cached.{cache_holds_one, guests_apart}
use Rattle.runs.specs.Demand3.{insertion_of, lookup_of, least_of, event_of, history, Runs, RunsAsLedger, NewIsEmpty, NobodyIsEmpty, FirstAtCode, SecondAtCode}

-- A reply says which event it was

insertion_back : (a : Insertion) → insertion_of (insert_reply a) ≡ a
insertion_back fresh = refl
insertion_back (fresh_out k) = refl
insertion_back (old v) = refl
insertion_back full = refl

lookup_back : (a : Lookup) → lookup_of (lookup_reply a) ≡ a
lookup_back (hit v) = refl
lookup_back miss = refl

least_back : (a : Least) → least_of (least_reply a) ≡ a
least_back (least k v) = refl
least_back nothing = refl

event_back : (a : CacheCall) (c : Cache) → event_of a (event_reply (does a c).0) ≡ (does a c).0
unfolding does
event_back (Insert k v) c = ap (inserted k v) (insertion_back (cache_insert k v c).0)
event_back (Get k) c = ap (got k) (lookup_back (cache_get k c).0)
event_back (Peek k) c = ap (peeked k) (lookup_back (cache_peek k c).0)
event_back (Remove k) c = ap (removed k) (lookup_back (cache_remove k c).0)
event_back (Reset k) c = ap (reset k) (lookup_back (cache_reset k c).0)
event_back PeekLfu c = ap peeked_lfu (least_back (cache_peek_lfu c).0)
event_back Evict c = ap evicted (least_back (cache_evict c).0)
event_back Clear c = refl
event_back Len c = refl

log_back : (calls : List CacheCall) (c : Cache) → history calls (map event_reply (log c calls)) ≡ log c calls
log_back [] c = refl
log_back (a ∷ as') c = λ i. event_back a c i ∷ log_back as' (does a c).1 i

-- One promise on tables that hold a cache

step : (a : CacheCall) (t : CacheTables) (s : State) (c : Cache) (r : Reply) (u : CacheTables) (z : State) → CacheHolds t s c → Makes cache a t s r u z →
    DoesOn cache (cache_calls a) t s c r u z
step a t s c r u z h m =
    let cap = h.table.capacity in
    let lim = h.table.limit in
    let sized = subst (Sized t.base) (sym cap) h.table.sized in
    let filled = ap (λ (us : List ℕ). length us) h.values ∙ h.formed.fits ∙ sym cap in
    subst (By cache (cache_calls a) t s r u z) (reads_one cache cache_holds_one t s m.0 (ledger c) m.1 (omega arith, (sized, filled), h)) m.2

run : (calls : List CacheCall) (replies : List Reply) (c : Cache) (t : CacheTables) (s : State) (t' : CacheTables) (s' : State) → CacheHolds t s c → Runs t s calls replies t' s' →
    (replies ≡ map event_reply (log c calls)) × CacheHolds t' s' (after_all c calls)
unfolding cache_calls
run [] [] c t s t' s' h w = (refl, subst (λ (u : CacheTables). CacheHolds u s' c) (sym w.0) (subst (λ (z : State). CacheHolds t z c) (sym w.1) h))
run [] (r ∷ rs) c t s t' s' h w = absurd w
run (a ∷ as') [] c t s t' s' h w = absurd w
run (a ∷ as') (r ∷ rs) c t s t' s' h w =
    let d = step a t s c r w.0 w.1 h w.2 in
    let rest = run as' rs (does a c).1 w.0 w.1 t' s' d.holds w.3 in
    (λ i. d.answer i ∷ rest.0 i, rest.1)

pub runs_as_ledger : RunsAsLedger
runs_as_ledger start calls replies t s w =
    let all = run calls replies start w.lent w.state t s w.held w.runs in
    record {
      answers = all.0;
      told = ap (history calls) all.0 ∙ log_back calls start;
      holds = all.1;
      apart = λ c h. guests_apart t s c h;
    }

-- Where demand 3 starts: tables that `new` has made, and any in which no key is bound

new_holds : (n : ℕ) (t u : CacheTables) (s : State) (v : Sizing cache) → MadeBy cache (new_cache n) t (Ok s) u v → CacheHolds u s (new_cache n)
new_holds n t u s too_large m = let made = m.0 in let z : ◌≡◌ {A = ℕ} 0 1 = cc in absurd (omega arith)
new_holds n t u s too_short m = let made = m.0 in let z : ◌≡◌ {A = ℕ} 0 1 = cc in absurd (omega arith)
new_holds n t u s fitting m = let made = m.1 in let z : m.0 ≡ s = cc in subst (λ (z : State). CacheHolds u z (new_cache n)) z m.2

pub new_is_empty : NewIsEmpty
new_is_empty n t u s m = (new_holds n t u s m.0 m.2, new_empty n)

pub nobody_is_empty : NobodyIsEmpty
nobody_is_empty t s c h none-bound = record { formed = h.formed; nobody = no_levels c.table.levels h.formed.table.rising none-bound }
  where
    no_levels : (ls : List Level) → Rising 0 ls → length (items ls) ≡ 0 → ls ≡ []
    no_levels [] r e = refl
    no_levels (l ∷ ls) r e = go l.entries r.2 e
      where
        go : (es : List Entry) → NonEmpty es → length (tag l.frequency es (items ls)) ≡ 0 → l ∷ ls ≡ []
        go [] n q = absurd n
        go (d ∷ ds) n q = absurd (omega arith)

-- Demand 3
pub first_at_code : FirstAtCode
first_at_code start nobody some-room calls replies t s w few before now rest parted v gone =
    first_sentence start nobody some-room calls few before now rest (sym (runs_as_ledger start calls replies t s w).told ∙ parted) v gone

pub second_at_code : SecondAtCode
second_at_code start nobody some-room calls replies t s w few before inserts rest parted only =
    second_sentence start nobody some-room calls few before inserts rest (sym (runs_as_ledger start calls replies t s w).told ∙ parted) only
