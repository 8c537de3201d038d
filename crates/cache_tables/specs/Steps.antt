-- A key takes the slot of another: the step of an insert into a full cache. It leaves no value behind and brings none, so the table of
-- values is not lent to it.
use Rattle.std.specs.Prelude.{◌≡◌, [], ℕ}
use Rattle.std.proofs.Math.Option.{none}
use Rattle.lists.specs.Lists.{In}
use Rattle.ledger.specs.Ledger.{Ledger, Item, items, lookup, put, release}
use Rattle.buckets_tables.specs.declared.State.{State}
use Rattle.buckets_tables.specs.Tables.{Tables}
use Rattle.buckets_tables.specs.Holds.{Holds}

-- an item stands in slot x, no slot is free, and the key is absent
pub record Replaceable (t : Tables) (s : State) (x key : ℕ) : Type 0 where
  pub ledger : Ledger
  pub holds : Holds t s ledger
  pub guest : Item
  pub inside : In guest (items ledger.levels)
  pub slot : guest.slot ≡ x
  pub full : ledger.free ≡ []
  pub absent : lookup key ledger ≡ none

-- the item is let go, and the key is bound in its slot, the only one that is free then
pub record Replaces (t : Tables) (s : State) (x key : ℕ) (t' : Tables) (s' : State) : Type 0 where
  pub holds : (l : Ledger) (y : Item) → Holds t s l → In y (items l.levels) → y.slot ≡ x → l.free ≡ [] → lookup key l ≡ none →
      Holds t' s' (put key y.slot [] (release y l))
