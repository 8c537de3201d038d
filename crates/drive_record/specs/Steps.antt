-- What one record of `drive` prints and leaves.
use Rattle.std.specs.Prelude.{◌≡◌, List, ℕ}
use Rattle.promise.specs.Promise.{Reading, Reads}
use Rattle.buckets_tables.specs.declared.State.{State}
use Rattle.buckets_tables.specs.Lent.{buckets}
use Rattle.cache_tables.specs.Tables.{CacheTables}
use Rattle.trace.specs.Written.{Spells}
use Rattle.drive_lines.specs.declared.Told.{Told}
use Rattle.drive_lines.specs.Lines.{text}
use Rattle.drive_walk.specs.Walk.{WALK, walk_text}
use Rattle.drive_record.specs.Operations.{operation_of, Acts}

-- a walk (20) prints the list of its frequency and leaves everything; any other operation prints what is told of it
pub record DrivePrints (code a b : ℕ) (t : CacheTables) (s : State) (line : List ℕ) (t' : CacheTables) (s' : State) : Type 0 where
  pub walked : code ≡ 20 → (v : Reading buckets) × Reads buckets t.base s v × (line ≡ walk_text a v) × (t' ≡ t) × (s' ≡ s)
  pub acted : (code ≡ 20 → ⊥) → (told : Told) × (line ≡ text told) × Acts (operation_of code a b) a b t s told t' s'

-- the same, with the line written into a buffer
pub record DriveSteps (code a b : ℕ) (t : CacheTables) (s : State) (out : List ℕ) (at : ℕ) (t' : CacheTables) (s' : State) (out' : List ℕ) (r : ℕ) : Type 0 where
  pub line : List ℕ
  pub prints : DrivePrints code a b t s line t' s'
  pub spells : Spells out at line WALK out' r
