-- What the steps of the check look at: the lengths of the tables, and whether the parts agree on every slot.
use Rattle.std.specs.Prelude.{◌≡◌, ◌≢◌, List, ℕ, ◌+◌, ◌*◌, ◌<◌, ◌≤◌, length}
use Rattle.numbers.specs.Marks.{LIMIT}
use Rattle.links.specs.Chain.{cells}
use Rattle.slot_arena.specs.Arena as arena
use Rattle.slot_arena.specs.Check.{used_in}
use Rattle.slot_arena.specs.Arena.{ArenaSound}
use Rattle.bucket_table.specs.Records.{WORDS}
use Rattle.key_index.specs.Index as index
use Rattle.key_index.specs.Index.{IndexSound}
use Rattle.levels.specs.Levels.{lowest_frequency}
use Rattle.levels.specs.Held.{LevelsSound}
use Rattle.buckets_tables.specs.declared.State.{State}
use Rattle.buckets_tables.specs.Tables.{Tables, leveled, Sized}
use Rattle.buckets_tables.specs.Holds.{Blank}

-- the tables with a word for each slot's key, frequency, epoch and two links are as long as the capacity
pub record SlotTables (k f e p n : List ℕ) (c : ℕ) : Type 0 where
  pub keys_size : length k ≡ c
  pub freqs_size : length f ≡ c
  pub epochs_size : length e ≡ c
  pub prevs_size : length p ≡ c
  pub nexts_size : length n ≡ c

-- the tables of the parts are as long as the capacity calls for
pub record PartTables (a i b sp : List ℕ) (c : ℕ) : Type 0 where
  pub arena_size : length a ≡ c
  pub index_size : length i ≡ c + c
  pub buckets_size : length b ≡ c * WORDS
  pub spares_size : length sp ≡ c

-- the tables have the lengths that a capacity calls for, and that is one that is allowed
pub record SlotAllowed (t : Tables) (c : ℕ) : Type 0 where
  pub limit : c ≤ LIMIT
  pub sized : Sized t c

-- tables beside the keys: as long as these are, and the index twice as long. (A slot past the arena's end is not in use.)
pub record Beside (k e n i : List ℕ) : Type 0 where
  pub epochs_size : length e ≡ length k
  pub nexts_size : length n ≡ length k
  pub index_size : length i ≡ length k + length k

-- slot x is free in every table: not handed out, not in the index, its key and epoch 0
pub record Off (k e a i : List ℕ) (x : ℕ) : Type 0 where
  pub unused : arena.InUse a x → ⊥
  pub out : index.Has i k x → ⊥
  pub blank : Blank k e x

-- slot x is bound in every table: handed out, and in the index
pub record On (k a i : List ℕ) (x : ℕ) : Type 0 where
  pub used : arena.InUse a x
  pub indexed : index.Has i k x

-- the tables agree on slot x: it is free in all of them if the lists mark it free, else bound in all
pub record Agree (k e n a i : List ℕ) (x : ℕ) : Type 0 where
  pub free : cells n x ≡ x → Off k e a i x
  pub bound : cells n x ≢ x → On k a i x

-- and so on every slot below m
abbrev pub AgreeBelow : (k e n a i : List ℕ) → ℕ → Type 0
AgreeBelow k e n a i m = (x : ℕ) → x < m → Agree k e n a i x

-- every step of the check says yes
pub record Passes (t : Tables) (s : State) : Type 0 where
  pub arena_sound : ArenaSound t.arena s.free
  pub index_sound : IndexSound t.index t.keys
  pub lists_sound : LevelsSound (leveled t) s.buckets
  pub agree : AgreeBelow t.keys t.epochs t.nexts t.arena t.index (length t.keys)
  pub count : s.count ≡ used_in t.arena
  pub lowest : s.lowest ≡ lowest_frequency lists_sound.0
