-- What the calls of the cache ask of the steps below: that a slot lies in the table of values, that a slot is bound, that a key may
-- take the slot of another, and that there is a free one for it.
use mathlib.Core.Path.{◌≡◌, ap, ◌∙◌}
use mathlib.Core.Logic.{◌≢◌}
use mathlib.Core.Option.{Option}
use mathlib.Core.List.{List}
use Prim.Native.Nat.{ℕ, ◌<◌}
use native.Mathlib.Omega.{arith}
use lib.ListN.{length}
use Rattle.numbers.specs.Marks.{NONE}
use Rattle.lists.specs.Lists.{one}
use Rattle.lists.proofs.Tests.{one_same}
use Rattle.lists.proofs.Members.{in_sum}
use Rattle.ledger.specs.Ledger.{Ledger, Item, items, lookup}
use Rattle.promise.specs.Promise.{Sound}
use Rattle.buckets_tables.specs.declared.State.{State}
use Rattle.buckets_tables.specs.Tables.{Tables}
use Rattle.buckets_tables.specs.Calls.{Room, BoundIn}
use Rattle.buckets_tables.proofs.Doing.{free_some}
use Rattle.buckets_tables.specs.Lent.{buckets}
use Rattle.cache_tables.specs.Tables.{CacheTables, with_values}
use Rattle.cache_tables.specs.Steps.{Replaceable}
use Rattle.cache_tables.proofs.Caching.{Sought, Missed, least_item}
use Rattle.cache_tables.proofs.Inserting.{none_free}
use Rattle.cache_tables.specs.Lent.{cache}

pub base_sound : (t : CacheTables) (s : State) → Sound cache t s → Sound buckets t.base s
base_sound t s w = (w.0.table, w.1.table)

module _ (find : Ledger → Option Item) (t : Tables) (s : State) (x : ℕ) (sought : Sought find t s x) where
  -- the slot of an item lies in the table of values, and its number is small enough for a place in memory
  pub value_sized : (vs : List ℕ) → Sound cache (with_values t vs) s → (x < length vs) × (x < 4096)
  value_sized vs w =
      let a = (sought w.0.table w.1.table).2.below in
      let b = ap (λ (us : List ℕ). length us) w.1.values ∙ w.1.formed.fits in
      let c = w.1.table.limit in
      (omega arith, omega arith)

  pub sought_bound : Sound buckets t s → BoundIn t s x
  sought_bound w =
      let y = sought w.0 w.1 in
      record {
        ledger = w.0;
        holds = w.1;
        bound = let c = in_sum (λ (z : Item). one z.slot x) (items w.0.levels) y.0 y.2.inside in omega (arith, one_same y.0.slot x y.2.slot);
      }

-- where no slot is free, a key that is not bound may take the slot of the least
pub out_replaceable : (t : Tables) (s : State) (x key : ℕ) → Sound buckets t s → Missed (lookup key) t s → s.free.first ≡ NONE → Sought least_item t s x →
    Replaceable t s x key
out_replaceable t s x key w missed full sought =
    let y = sought w.0 w.1 in
    record {
      ledger = w.0;
      holds = w.1;
      guest = y.0;
      inside = y.2.inside;
      slot = y.2.slot;
      full = none_free t s w.0 w.1 full;
      absent = missed w.0 w.1;
    }

-- there is a free slot for a key that is not bound
pub new_room : (t : Tables) (s : State) (key : ℕ) → Sound buckets t s → Missed (lookup key) t s → s.free.first ≢ NONE → Room t s key
new_room t s key w missed d =
    let f = free_some t s w.0 w.1 d in
    record { ledger = w.0; rest = f.0; holds = w.1; absent = missed w.0 w.1; free_is = f.1 }
