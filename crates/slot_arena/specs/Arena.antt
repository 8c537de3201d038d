-- What a table of slots stands for, and what each call does to it. `arena[s]` is the free slot after s, NONE at the last one, USED at a slot in use.
use Rattle.std.specs.Prelude.{◌≡◌, List, [], ◌∷◌, ◌++◌, ℕ, ◌+◌, ◌≤◌, ◌<◌, length, get_or}
use Rattle.numbers.specs.Marks.{LIMIT, NONE}
use Rattle.numbers.specs.declared.Slot.{Slot}
use Rattle.lists.specs.Lists.{All, Without, final, from}
use Rattle.links.specs.Chain.{Chain, cells}
use Rattle.slot_arena.specs.declared.Order.{Order}

-- the mark of a slot in use
abbrev pub USED : ℕ
USED = 4097

-- s is a slot of the table t, in use
abbrev pub InUse : List ℕ → ℕ → Type 0
InUse t s = (s < length t) × (get_or t s 0 ≡ USED)

-- the slots of t are free in the order `free`, all others are in use
pub record ArenaHolds (t : List ℕ) (o : Order) (free : List ℕ) : Type 0 where
  pub limit : length t ≤ LIMIT
  pub chain : Chain (length t) (cells t) o.first free
  pub last : o.last ≡ final NONE free
  pub others : (s : ℕ) → s < length t → Without s free → get_or t s 0 ≡ USED

-- the table and the order are those of some free slots
abbrev pub ArenaSound : List ℕ → Order → Type 0
ArenaSound t o = (free : List ℕ) × ArenaHolds t o free

-- the slots in use are rs
pub record Uses (t : List ℕ) (o : Order) (rs : List ℕ) : Type 0 where
  pub sound : ArenaSound t o
  pub many : length sound.0 + length rs ≡ length t
  pub marks : All (InUse t) rs

-- `fill`: all slots are free in ascending order, whatever the table held
pub record Filled (t t' : List ℕ) (o : Order) : Type 0 where
  pub size : length t' ≡ length t
  pub holds : ArenaHolds t' o (from 0 (length t))

-- `take`: the first free slot is handed out, the others stay free in their order
pub record Takes (t : List ℕ) (o : Order) (t' : List ℕ) (x : Slot) (o' : Order) : Type 0 where
  pub size : length t' ≡ length t
  pub slot : x.0 ≡ o.first
  pub holds : (s : ℕ) (rest : List ℕ) → ArenaHolds t o (s ∷ rest) → ArenaHolds t' o' rest

-- `release`: a slot in use becomes the last free one
pub record Releases (t : List ℕ) (o : Order) (s : ℕ) (t' : List ℕ) (o' : Order) : Type 0 where
  pub size : length t' ≡ length t
  pub holds : (free : List ℕ) → ArenaHolds t o free → InUse t s → ArenaHolds t' o' (free ++ s ∷ [])
