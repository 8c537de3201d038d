-- Each call of the cache that finds or misses a key, or takes the least, does what the cache's function does: by where the item
-- stands, and by what the buckets' steps promise of its slot.
use mathlib.Core.Path.{◌≡◌, ap}
use Rattle.std.proofs.Common.{Some, None}
use mathlib.Core.Option.{Option, none, some}
use mathlib.Core.List.{List, [], ◌∷◌}
use Prim.Native.Nat.{ℕ}
use lib.ListN.{get_or, set}
use Rattle.numbers.specs.Frequency.{CEILING}
use Rattle.numbers.specs.declared.Refusal.TheVariants.{Absent, Empty}
use Rattle.numbers.specs.declared.Slot.{Slot}
use Rattle.ledger.specs.Ledger.{Ledger, Item, lookup, lowest}
use Rattle.ledger.specs.Buckets.{done, refused, touch}
use Rattle.ledger.specs.Cache.{cache_get, cache_peek, cache_remove, cache_reset, cache_peek_lfu, cache_evict}
use Rattle.ledger.specs.History.{Get, Peek, Remove, Reset, PeekLfu, Evict, does}
use Rattle.ledger.specs.CacheCalls.{cache_calls}
use Rattle.promise.specs.Promise.{Does, Tells}
use Rattle.links.specs.Chain.{cells}
use Rattle.key_index.specs.Index as index
use Rattle.levels.specs.Calls.{Lowest}
use Rattle.levels.specs.Held.{Tabs}
use Rattle.buckets_tables.specs.declared.State.{State}
use Rattle.buckets_tables.specs.declared.Guests.{Guests}
use Rattle.buckets_tables.specs.Slices.{joined}
use Rattle.buckets_tables.specs.Tables.{Tables}
use Rattle.buckets_tables.specs.Holds.{Holds}
use Rattle.buckets_tables.specs.Calls.{Restarts, LetsGo}
use Rattle.buckets_tables.proofs.Found.{Stands, found_at, found_nothing, lowest_nothing}
use Rattle.buckets_tables.proofs.Doing.{least, stands_x}
use Rattle.buckets_tables.specs.Lent.{buckets}
use Rattle.cache_tables.specs.Tables.{with_values}
use Rattle.cache_tables.specs.Lent.{cache}
use Rattle.cache_tables.proofs.Cached.{value_at, stored_at, cache_refuse, cache_done, cache_tell}

-- Where the sought item stands: in every ledger that the tables hold it is found, and stands in slot x; or it is found in none
abbrev pub Sought : (Ledger → Option Item) → Tables → State → ℕ → Type 0
Sought find t s x = (l : Ledger) (h : Holds t s l) → (y : Item) × (find l ≡ some y) × Stands t s l h y x

abbrev pub Missed : (Ledger → Option Item) → Tables → State → Type 0
Missed find t s = (l : Ledger) → Holds t s l → find l ≡ none

abbrev pub least_item : Ledger → Option Item
least_item l = lowest l.levels

pub sought_key : (t : Tables) (s : State) (key : ℕ) (x : Slot) → index.Finds t.index t.keys key (Some x) → Sought (lookup key) t s x.0
sought_key t s key x f l h = let w = found_at t s l h key x f in (w.item_is, w.found, w.there_is)

pub missed_key : (t : Tables) (s : State) (key : ℕ) → index.Finds t.index t.keys key None → Missed (lookup key) t s
missed_key t s key f l h = found_nothing t s l h key f

pub sought_least : (t : Tables) (s : State) (x : Slot) → Lowest t.buckets s.buckets (Some x) → Sought least_item t s x.0
sought_least t s x low l h =
    let names = λ (m : Ledger) (k : Holds t s m). low.answer _ _ _ _ _ k.lists in
    let w = least t s x names l h in
    (w.0, w.1.is, stands_x t s x names l h)

pub missed_least : (t : Tables) (s : State) → Lowest t.buckets s.buckets None → Missed least_item t s
missed_least t s low l h = lowest_nothing t s l h (low.answer _ _ _ _ _ h.lists)

module _ (t : Tables) (vs : List ℕ) (s : State) where
  -- A key that is bound in slot x
  module _ (key x : ℕ) (sought : Sought (lookup key) t s x) where
    pub peek_hit : Tells cache (cache_calls (Peek key)) (with_values t vs) s (done (get_or vs x 0 ∷ []))
    unfolding does cache_peek
    peek_hit =
        cache_tell (Peek key) (with_values t vs) s (done (get_or vs x 0 ∷ []))
        (λ c h. let w = sought c.table h.table in rw w.1 (ap (λ (n : ℕ). done (n ∷ [])) (value_at vs x c w.0 h.values w.2.slot)))

    pub get_hit : (f : List ℕ) (t' : Tables) (s' : State) → Does buckets (touch CEILING key) t s (done f) t' s' →
        Does cache (cache_calls (Get key)) (with_values t vs) s (done (get_or vs x 0 ∷ [])) (with_values t' vs) s'
    unfolding does cache_get touch
    get_hit f t' s' hits =
        cache_done (Get key) t vs s (get_or vs x 0 ∷ []) t' vs s'
        (λ c h.
        let w = sought c.table h.table in
        rw w.1 (ap (λ (n : ℕ). done (n ∷ [])) (value_at vs x c w.0 h.values w.2.slot), rw w.1 at (hits c.table h.table).holds, h.values))

    pub remove_hit : (t' : Tables) (s' : State) → LetsGo t s x t' s' →
        Does cache (cache_calls (Remove key)) (with_values t vs) s (done (get_or vs x 0 ∷ [])) (with_values t' (set vs x 0)) s'
    unfolding does cache_remove
    remove_hit t' s' gone =
        cache_done (Remove key) t vs s (get_or vs x 0 ∷ []) t' (set vs x 0) s'
        (λ c h.
        let w = sought c.table h.table in
        rw w.1 (
          ap (λ (n : ℕ). done (n ∷ [])) (value_at vs x c w.0 h.values w.2.slot),
          gone.holds c.table w.0 h.table w.2.inside w.2.slot,
          stored_at vs x 0 c w.0 h.values w.2.slot,
        ))

  -- A key that is not bound
  module _ (key : ℕ) (missed : Missed (lookup key) t s) where
    pub peek_miss : Tells cache (cache_calls (Peek key)) (with_values t vs) s (refused Absent)
    unfolding does cache_peek
    peek_miss = cache_tell (Peek key) (with_values t vs) s (refused Absent) (λ c h. rw (missed c.table h.table))

    pub get_miss : Does cache (cache_calls (Get key)) (with_values t vs) s (refused Absent) (with_values t vs) s
    unfolding does cache_get
    get_miss = cache_refuse (Get key) (with_values t vs) s Absent (λ c h. rw (missed c.table h.table))

    pub remove_miss : Does cache (cache_calls (Remove key)) (with_values t vs) s (refused Absent) (with_values t vs) s
    unfolding does cache_remove
    remove_miss = cache_refuse (Remove key) (with_values t vs) s Absent (λ c h. rw (missed c.table h.table))

    pub reset_miss : Does cache (cache_calls (Reset key)) (with_values t vs) s (refused Absent) (with_values t vs) s
    unfolding does cache_reset
    reset_miss = cache_refuse (Reset key) (with_values t vs) s Absent (λ c h. rw (missed c.table h.table))

  -- The least
  module _ (missed : Missed least_item t s) where
    pub peek_lfu_miss : Tells cache (cache_calls PeekLfu) (with_values t vs) s (refused Empty)
    unfolding does cache_peek_lfu
    peek_lfu_miss = cache_tell PeekLfu (with_values t vs) s (refused Empty) (λ c h. rw (missed c.table h.table))

    pub evict_miss : Does cache (cache_calls Evict) (with_values t vs) s (refused Empty) (with_values t vs) s
    unfolding does cache_evict
    evict_miss = cache_refuse Evict (with_values t vs) s Empty (λ c h. rw (missed c.table h.table))

  module _ (x : ℕ) (sought : Sought least_item t s x) where
    pub peek_lfu_hit : Tells cache (cache_calls PeekLfu) (with_values t vs) s (done (cells t.keys x ∷ get_or vs x 0 ∷ []))
    unfolding does cache_peek_lfu
    peek_lfu_hit =
        cache_tell PeekLfu (with_values t vs) s (done (cells t.keys x ∷ get_or vs x 0 ∷ []))
        (λ c h. let w = sought c.table h.table in rw w.1 (λ i. done (w.2.key i ∷ value_at vs x c w.0 h.values w.2.slot i ∷ [])))

    pub evict_hit : (t' : Tables) (s' : State) → LetsGo t s x t' s' →
        Does cache (cache_calls Evict) (with_values t vs) s (done (cells t.keys x ∷ get_or vs x 0 ∷ [])) (with_values t' (set vs x 0)) s'
    unfolding does cache_evict
    evict_hit t' s' gone =
        cache_done Evict t vs s (cells t.keys x ∷ get_or vs x 0 ∷ []) t' (set vs x 0) s'
        (λ c h.
        let w = sought c.table h.table in
        rw w.1 (
          λ i. done (w.2.key i ∷ value_at vs x c w.0 h.values w.2.slot i ∷ []),
          gone.holds c.table w.0 h.table w.2.inside w.2.slot,
          stored_at vs x 0 c w.0 h.values w.2.slot,
        ))

-- A reset keeps the guests and the values
pub reset_hit : (g : Guests (List ℕ)) (e : List ℕ) (v : Tabs) (vs : List ℕ) (s : State) (key x : ℕ) → Sought (lookup key) (joined g e v) s x →
    (e' : List ℕ) (v' : Tabs) (s' : State) → Restarts e v s x e' v' s' →
    Does cache (cache_calls (Reset key)) (with_values (joined g e v) vs) s (done (cells v.freqs x ∷ [])) (with_values (joined g e' v') vs) s'
unfolding does cache_reset
reset_hit g e v vs s key x sought e' v' s' restarts =
    cache_done (Reset key) (joined g e v) vs s (cells v.freqs x ∷ []) (joined g e' v') vs s'
    (λ c h.
    let w = sought c.table h.table in
    rw w.1 (
      λ i. done (w.2.frequency i ∷ []),
      restarts.holds g c.table w.0 h.table w.2.inside w.2.slot,
      h.values,
    ))
