-- What the lent tables and the state hold: a ledger, by relation.
use Rattle.std.specs.Prelude.{◌≡◌, ℕ, ◌≤◌, ◌↔◌, List, [], ◌∷◌, map}
use Rattle.numbers.specs.Marks.{LIMIT}
use Rattle.lists.specs.Lists.{All}
use Rattle.ledger.specs.Ledger.{Entry, Level, Ledger, items, size, slotted, WellFormed}
use Rattle.links.specs.Chain.{cells}
use Rattle.slot_arena.specs.Arena.{ArenaHolds}
use Rattle.key_index.specs.Index as index
use Rattle.key_index.specs.Index.{IndexSound}
use Rattle.levels.specs.Levels as levels
use Rattle.levels.specs.Held.{Held}
use Rattle.buckets_tables.specs.declared.State.{State}
use Rattle.buckets_tables.specs.Tables.{Tables, leveled, Sized}

-- what the tables say of a slot
abbrev pub entry_at : (keys epochs : List ℕ) → ℕ → Entry
entry_at keys epochs s = record { key = cells keys s; slot = s; epoch = cells epochs s }

abbrev pub entries_at : (keys epochs : List ℕ) → List ℕ → List Entry
entries_at keys epochs ss = map (entry_at keys epochs) ss

-- lists of slots as the ledger's lists
abbrev pub levels_at : (keys epochs : List ℕ) → List levels.Level → List Level
levels_at keys epochs ls = map (λ (l : levels.Level). record { frequency = l.freq; entries = entries_at keys epochs l.slots }) ls

-- the lowest frequency in use, 0 where there is none
abbrev pub lowest_of : List Level → ℕ
lowest_of [] = 0
lowest_of (l ∷ ls) = l.frequency

-- slot s is bound in the ledger
abbrev pub BoundSlot : Ledger → ℕ → Type 0
BoundSlot l s = 1 ≤ slotted s (items l.levels)

-- key and epoch of a slot are 0
abbrev pub Blank : (keys epochs : List ℕ) → ℕ → Type 0
Blank keys epochs x = (cells keys x ≡ 0) × (cells epochs x ≡ 0)

-- the tables hold a ledger
pub record Holds (t : Tables) (s : State) (l : Ledger) : Type 0 where
  -- every slot is bound once or free once, no key stands twice, the frequencies rise
  pub formed : WellFormed l
  -- sizes and counts
  pub limit : l.capacity ≤ LIMIT
  pub capacity : s.capacity ≡ l.capacity
  pub sized : Sized t l.capacity
  pub count : s.count ≡ size l
  pub lowest : s.lowest ≡ lowest_of l.levels
  pub epoch : s.epoch ≡ l.epoch
  -- the lists: heads, tails and links both ways, and each slot's frequency, key and epoch
  pub slots : List levels.Level
  pub lists : Held (leveled t) s.buckets slots
  pub entries : l.levels ≡ levels_at t.keys t.epochs slots
  -- the order of the free slots
  pub free : ArenaHolds t.arena s.free l.free
  -- free slots hold 0 (their frequency too, which is part of the lists)
  pub zeros : All (Blank t.keys t.epochs) l.free
  -- index and entries agree: exactly the bound slots are in the index
  pub index_sound : IndexSound t.index t.keys
  pub indexed : (x : ℕ) → index.Has t.index t.keys x ↔ BoundSlot l x
