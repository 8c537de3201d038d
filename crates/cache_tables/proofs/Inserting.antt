-- The four ways of an insert into the cache: the key is bound already, there is a free slot, the least goes, or there is no slot at
-- all. By where the key or the least stands, and by what binding and replacing promise; the values are one store each, and as they were where
-- there is no slot.
use mathlib.Core.Path.{◌≡◌, refl, sym, ap, ◌∙◌}
use mathlib.Core.Logic.{◌≢◌}
use mathlib.Core.List.{List, [], ◌∷◌}
use Prim.Native.Nat.{ℕ}
use lib.ListN.{get_or, set}
use lib.Seq.{set-set}
use Rattle.numbers.specs.Marks.{NONE}
use Rattle.numbers.specs.declared.Refusal.TheVariants.{Full}
use Rattle.numbers.specs.declared.Slot.{Slot}
use Rattle.ledger.specs.Ledger.{Ledger, lookup}
use Rattle.ledger.specs.Buckets.{done, refused}
use Rattle.ledger.specs.Cache.{cache_insert}
use Rattle.ledger.specs.History.{Insert, does}
use Rattle.ledger.specs.CacheCalls.{cache_calls}
use Rattle.promise.specs.Promise.{Does}
use Rattle.links.specs.Chain.{cells}
use Rattle.slot_arena.proofs.Free.{first_none}
use Rattle.buckets_tables.specs.declared.State.{State}
use Rattle.buckets_tables.specs.Tables.{Tables}
use Rattle.buckets_tables.specs.Holds.{Holds}
use Rattle.buckets_tables.specs.Calls.{Binds}
use Rattle.buckets_tables.proofs.Doing.{free_some}
use Rattle.cache_tables.specs.Tables.{with_values}
use Rattle.cache_tables.specs.Lent.{cache}
use Rattle.cache_tables.specs.Steps.{Replaces}
use Rattle.cache_tables.proofs.Cached.{value_at, stored_at, cache_refuse, cache_done}
use Rattle.cache_tables.proofs.Caching.{Sought, Missed, least_item}

-- no slot is free where the order begins with NONE
pub none_free : (t : Tables) (s : State) (l : Ledger) → Holds t s l → s.free.first ≡ NONE → l.free ≡ []
none_free t s l h e = (first_none t.arena s.free l.free h.free).1 e

module _ (t : Tables) (vs : List ℕ) (s : State) (key v : ℕ) where
  -- the value is replaced, and nothing else
  pub insert_old : (x : ℕ) → Sought (lookup key) t s x → Does cache (cache_calls (Insert key v)) (with_values t vs) s (done (2 ∷ get_or vs x 0 ∷ [])) (with_values t (set vs x v)) s
  unfolding does cache_insert
  insert_old x sought =
      cache_done (Insert key v) t vs s (2 ∷ get_or vs x 0 ∷ []) t (set vs x v) s
      (λ c h.
      let w = sought c.table h.table in
      rw w.1 (
        ap (λ (n : ℕ). done (2 ∷ n ∷ [])) (value_at vs x c w.0 h.values w.2.slot),
        h.table,
        stored_at vs x v c w.0 h.values w.2.slot,
      ))

  module _ (missed : Missed (lookup key) t s) where
    pub insert_new_lem : s.free.first ≢ NONE → (t' : Tables) (x : Slot) (s' : State) → Binds t s key t' x s' →
        Does cache (cache_calls (Insert key v)) (with_values t vs) s (done (0 ∷ [])) (with_values t' (set vs x.0 v)) s'
    unfolding does cache_insert
    insert_new_lem d t' x s' binds =
        cache_done (Insert key v) t vs s (0 ∷ []) t' (set vs x.0 v) s'
        (λ c h.
        let e = missed c.table h.table in
        let f = free_some t s c.table h.table d in
        rw (e, f.1) (
          refl,
          binds.holds c.table f.0 h.table e f.1,
          λ i. set (h.values i) (binds.slot i) v,
        ))

    module _ (full : s.free.first ≡ NONE) where
      pub insert_refused : Missed least_item t s → Does cache (cache_calls (Insert key v)) (with_values t vs) s (refused Full) (with_values t vs) s
      unfolding does cache_insert
      insert_refused empty =
          cache_refuse (Insert key v) (with_values t vs) s Full
          (λ c h. rw (missed c.table h.table, none_free t s c.table h.table full, empty c.table h.table))

      pub insert_out : (x : ℕ) → Sought least_item t s x → (t' : Tables) (s' : State) → Replaces t s x key t' s' →
          Does cache (cache_calls (Insert key v)) (with_values t vs) s (done (1 ∷ cells t.keys x ∷ [])) (with_values t' (set vs x v)) s'
      unfolding does cache_insert
      insert_out x sought t' s' replaces =
          cache_done (Insert key v) t vs s (1 ∷ cells t.keys x ∷ []) t' (set vs x v) s'
          (λ c h.
          let e = missed c.table h.table in
          let f = none_free t s c.table h.table full in
          let w = sought c.table h.table in
          let k = replaces.holds c.table w.0 h.table w.2.inside w.2.slot f e in
          rw (e, f, w.1) (
            λ i. done (1 ∷ w.2.key i ∷ []),
            k,
            stored_at vs x v c w.0 h.values w.2.slot ∙ sym (set-set c.values w.0.slot 0 v),
          ))
