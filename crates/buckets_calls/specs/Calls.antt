-- A touch is not lent the arena: the tables that it is lent, with an arena beside them.
use Rattle.std.specs.Prelude.{List, ℕ}
use Rattle.levels.specs.Held.{Tabs}
use Rattle.buckets_tables.specs.Slices.{joined}
use Rattle.buckets_tables.specs.Tables.{Tables}

abbrev pub with : (keys index epochs : List ℕ) → Tabs → (arena : List ℕ) → Tables
with k i e l a = joined (record { keys = k; arena = a; index = i }) e l
