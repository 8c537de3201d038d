-- The ten tables of the cache in contracts, as they are lent: those of the buckets, and the values as a list.
use Rattle.std.specs.Prelude.{List, ℕ}
use Rattle.std.specs.Borrow.{Bor, MutBor}
use Rattle.levels.specs.declared.Levels.{Levels}
use Rattle.buckets_tables.specs.declared.Guests.{Guests}
use Rattle.buckets_tables.specs.Slices as nine
use Rattle.cache_tables.specs.Tables.{CacheTables, with_values}

-- all lent for writing
abbrev pub lent : Guests (MutBor (List ℕ)) → (epochs : List ℕ) → Levels (MutBor (List ℕ)) → (values : List ℕ) → CacheTables
lent g e l vs = with_values (nine.lent g e l) vs

-- the levels for writing, the guests for reading
abbrev pub counted : Guests (Bor (List ℕ)) → (epochs : List ℕ) → Levels (MutBor (List ℕ)) → (values : List ℕ) → CacheTables
counted g e l vs = with_values (nine.counted g e l) vs

-- both for reading
abbrev pub shown : Guests (Bor (List ℕ)) → (epochs : List ℕ) → Levels (Bor (List ℕ)) → (values : List ℕ) → CacheTables
shown g e l vs = with_values (nine.shown g e l) vs
