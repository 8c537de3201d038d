-- A batch of hits on the cache is the buckets' batch of touches, with the values as they were: a get changes no value, and counts where
-- the touch is done.
use mathlib.Core.Path.{◌≡◌, refl, sym, ap, ◌∙◌, subst}
use mathlib.Core.Option.{Option, none, some}
use mathlib.Core.List.{List, [], ◌∷◌}
use Prim.Native.Nat.{ℕ, ◌+◌}
use Rattle.numbers.specs.declared.Refusal.TheVariants.{Absent}
use Rattle.numbers.specs.Frequency.{CEILING, raised}
use Rattle.ledger.specs.Ledger.{Item, lookup, if_found, move}
use Rattle.ledger.specs.Buckets.{Outcome, done, refused, was_done, batch, touch, touch_batch}
use Rattle.ledger.specs.Cache.{Cache, Lookup, hit, miss, value_of, moved, was_hit, cache_get, key_batch, cache_touch_batch}
use Rattle.ledger.specs.CacheCalls.{touch_batch_call}
use Rattle.ledger.proofs.Batches.{cache_touch_batch_formed}
use Rattle.ledger.proofs.Refusals.{done_refused}
use Rattle.promise.specs.Promise.{Does}
use Rattle.buckets_tables.specs.declared.State.{State}
use Rattle.buckets_tables.specs.Tables.{Tables}
use Rattle.buckets_tables.specs.Holds.{Holds}
use Rattle.buckets_tables.specs.Lent.{buckets}
use Rattle.cache_tables.specs.Tables.{with_values}
use Rattle.cache_tables.specs.Lent.{cache}

-- the cache with another ledger
abbrev over : Cache → Outcome → Cache
over c o = record { table = o.1; values = c.values }

abbrev Alike : Cache → Lookup × Cache → Outcome → Type 0
Alike c g o = (was_hit g.0 ≡ was_done o.0) × (g.1 ≡ over c o)

get_touch : (k : ℕ) (c : Cache) → Alike c (cache_get k c) (touch CEILING k c.table)
unfolding cache_get touch
get_touch k c = go (lookup k c.table)
  where
    go : (o : Option Item) →
        Alike c (if_found o (miss, c) (λ x. (hit (value_of x c), moved x (raised CEILING x.frequency) c)))
        (if_found o (refused Absent, c.table) (λ x. let f = raised CEILING x.frequency in (done (f ∷ []), move x f c.table)))
    go none = (refl, refl)
    go (some x) = (refl, refl)

gets_touch : (ks : List ℕ) (c : Cache) → key_batch cache_get ks c ≡ ((batch (touch CEILING) ks c.table).0, record { table = (batch (touch CEILING) ks c.table).1; values = c.values })
gets_touch [] c = refl
gets_touch (k ∷ ks) c =
    let s = get_touch k c in
    let rest = ap (λ (d : Cache). key_batch cache_get ks d) s.1 ∙ gets_touch ks (over c (touch CEILING k c.table)) in
    λ i. (s.0 i + (rest i).0, (rest i).1)

pub touches_all : (ks : List ℕ) (t : Tables) (vs : List ℕ) (s : State) (n : ℕ) (t' : Tables) (s' : State) → Does buckets (touch_batch ks) t s (done (n ∷ [])) t' s' →
    Does cache (touch_batch_call ks) (with_values t vs) s (done (n ∷ [])) (with_values t' vs) s'
unfolding touch_batch touch_batch_call cache_touch_batch
touches_all ks t vs s n t' s' d c h =
    let same = gets_touch ks c in
    record {
      answer = (d c.table h.table).answer ∙ ap (λ (z : ℕ × Cache). done (z.0 ∷ [])) (sym same);
      holds = record {
        table = subst (λ (z : ℕ × Cache). Holds t' s' z.1.table) (sym same) (d c.table h.table).holds;
        values = h.values ∙ ap (λ (z : ℕ × Cache). z.1.values) (sym same);
        formed = cache_touch_batch_formed ks c h.formed;
      };
      leaves = λ a e. done_refused (n ∷ []) a e;
    }
