-- The nine tables of the buckets in contracts, as they are lent: the guests' and the levels' for writing or for reading, the epochs as a list.
use Rattle.std.specs.Prelude.{◌≡◌, List, ℕ, length}
use Rattle.std.specs.Borrow.{Bor, MutBor}
use Rattle.levels.specs.Held.{Tabs}
use Rattle.levels.specs.Slices.{lent as lent_levels, shown as shown_levels, SameLevels}
use Rattle.levels.specs.declared.Levels.{Levels}
use Rattle.buckets_tables.specs.declared.Guests.{Guests}
use Rattle.buckets_tables.specs.Tables.{Tables, tables}

-- the guests' tables, lent for writing or for reading
abbrev pub lent_guests : Guests (MutBor (List ℕ)) → Guests (List ℕ)
lent_guests g = record { keys = g.keys.now; arena = g.arena.now; index = g.index.now }

abbrev pub shown_guests : Guests (Bor (List ℕ)) → Guests (List ℕ)
shown_guests g = record { keys = g.keys.now; arena = g.arena.now; index = g.index.now }

abbrev pub joined : Guests (List ℕ) → (epochs : List ℕ) → Tabs → Tables
joined g e l = tables g.keys l.freqs e l.prevs l.nexts g.arena g.index l.buckets l.spares

-- all lent for writing
abbrev pub lent : Guests (MutBor (List ℕ)) → (epochs : List ℕ) → Levels (MutBor (List ℕ)) → Tables
lent g e l = joined (lent_guests g) e (lent_levels l)

-- the levels for writing, the guests for reading
abbrev pub counted : Guests (Bor (List ℕ)) → (epochs : List ℕ) → Levels (MutBor (List ℕ)) → Tables
counted g e l = joined (shown_guests g) e (lent_levels l)

-- both for reading
abbrev pub shown : Guests (Bor (List ℕ)) → (epochs : List ℕ) → Levels (Bor (List ℕ)) → Tables
shown g e l = joined (shown_guests g) e (shown_levels l)

-- the same slices, each as long as it was
pub record SameGuests (g g' : Guests (MutBor (List ℕ))) : Type 0 where
  pub keys : g'.keys.ghost_name ≡ g.keys.ghost_name
  pub keys_size : length g'.keys.now ≡ length g.keys.now
  pub arena : g'.arena.ghost_name ≡ g.arena.ghost_name
  pub arena_size : length g'.arena.now ≡ length g.arena.now
  pub index : g'.index.ghost_name ≡ g.index.ghost_name
  pub index_size : length g'.index.now ≡ length g.index.now

abbrev pub Same : (g g' : Guests (MutBor (List ℕ))) → (l l' : Levels (MutBor (List ℕ))) → Type 0
Same g g' l l' = SameGuests g g' × SameLevels l l'
