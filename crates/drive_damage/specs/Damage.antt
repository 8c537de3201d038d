-- What damage does: one number in one place, the rest as it was. Tables and fields go by their numbers in a list.
use Rattle.std.specs.Prelude.{◌≡◌, List, [], ◌∷◌, ℕ, ◌<◌, ◌≤◌, ◌/◌, ◌%◌, length, get_or, set}
use Rattle.buckets_tables.specs.declared.State.{State}
use Rattle.cache_tables.specs.Tables.{CacheTables}
use Rattle.trace.specs.declared.Word.{Word}
use Rattle.trace.specs.declared.Word.TheVariants.{Okay, Bad}

-- places for each table
abbrev pub PLACES : ℕ
PLACES = 65536

-- `OK` and b at a place of a list, or `BAD` where there is no such place
pub record Puts (place b : ℕ) (xs : List ℕ) (w : Word) (xs' : List ℕ) : Type 0 where
  pub inside : place < length xs → (w ≡ Okay) × (xs' ≡ set xs place b)
  pub outside : length xs ≤ place → (w ≡ Bad) × (xs' ≡ xs)

-- the tables, numbered from 0
abbrev pub listed : CacheTables → List (List ℕ)
listed t =
    t.base.keys ∷ t.base.freqs ∷ t.base.epochs ∷ t.base.prevs ∷ t.base.nexts ∷
    t.base.arena ∷ t.base.index ∷ t.base.buckets ∷ t.base.spares ∷ t.values ∷ []

-- a table by its number; past the last there is one without places
abbrev pub named : ℕ → CacheTables → List ℕ
named j t = get_or (listed t) j []

-- b at a place of table j
pub record Stores (j place b : ℕ) (t : CacheTables) (w : Word) (t' : CacheTables) : Type 0 where
  pub inside : place < length (named j t) → (w ≡ Okay) × (listed t' ≡ set (listed t) j (set (named j t) place b))
  pub outside : length (named j t) ≤ place → (w ≡ Bad) × (listed t' ≡ listed t)

-- b at place a % PLACES of table a / PLACES
abbrev pub Damages : (a b : ℕ) → CacheTables → Word → CacheTables → Type 0
Damages a b t w t' = Stores (a / PLACES) (a % PLACES) b t w t'

-- the fields of the state, numbered from 0
abbrev pub fields : State → List ℕ
fields s =
    s.capacity ∷ s.count ∷ s.lowest ∷ s.epoch ∷ s.free.first ∷ s.free.last ∷
    s.buckets.bottom ∷ s.buckets.top ∷ s.buckets.spare.first ∷ s.buckets.spare.last ∷ []

-- b in field a
abbrev pub Alters : (a b : ℕ) → State → Word → State → Type 0
Alters a b s w s' = Puts a b (fields s) w (fields s')
