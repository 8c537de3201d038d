-- The lent tables of the cache: those of the frequency buckets, and a value for each slot. What they hold is a cache, by relation.
use Rattle.std.specs.Prelude.{◌≡◌, List, ℕ}
use Rattle.ledger.specs.Cache.{Cache, CacheFormed}
use Rattle.buckets_tables.specs.declared.State.{State}
use Rattle.buckets_tables.specs.Tables.{Tables}
use Rattle.buckets_tables.specs.Holds.{Holds}

pub record CacheTables : Type 0 where
  pub base : Tables
  pub values : List ℕ

abbrev pub with_values : Tables → List ℕ → CacheTables
with_values t vs = record { base = t; values = vs }

pub record CacheHolds (t : CacheTables) (s : State) (c : Cache) : Type 0 where
  -- the ledger, by the tables of the buckets
  pub table : Holds t.base s c.table
  pub values : t.values ≡ c.values
  -- a value for each slot, 0 for a free one
  pub formed : CacheFormed c
