-- What the turns of `drive` do: for each record, in order, a line by the promise of its public call. Which bytes an input has and which reach
-- standard output no contract can say: those that were read stand in the input buffer, those that are written in the output buffer.
use Rattle.std.specs.Prelude.{◌≡◌, List, [], ◌++◌, ℕ, ◌+◌, ◌≤◌, ◌<◌, length, take}
use Rattle.numbers.specs.Marks.{LIMIT}
use Rattle.buckets_tables.specs.declared.State.{State}
use Rattle.cache_tables.specs.Tables.{CacheTables}
use Rattle.trace.specs.Output.{RECORD, code_of, key_of, value_of}
use Rattle.trace_input.specs.Feeding.{record_at}
use Rattle.drive_walk.specs.Walk.{WALK}
use Rattle.drive_record.specs.Steps.{DrivePrints}
use Rattle.drive.specs.declared.Fed.{Fed}
use Rattle.drive.specs.declared.Turned.{Turned}

-- the bytes of a part of the input, and the place up to which a record may begin to print
abbrev pub DRIVE_PART : ℕ
DRIVE_PART = 65518

abbrev pub LAST : ℕ
LAST = 262144

-- a table for the keys and values of a batch, a part of the input of which some bytes are carried out, and room to print from LAST on
pub record DriveBuffers (items input : List ℕ) (next end : ℕ) (out : List ℕ) : Type 0 where
  pub places : length items ≡ LIMIT
  pub begun : next ≤ end
  pub part : end ≤ DRIVE_PART
  pub reads : DRIVE_PART ≤ length input
  pub prints : LAST + WALK ≤ length out

-- record after record, from a place on
pub data Serves (input : List ℕ) (from : ℕ) (t₀ : CacheTables) (s₀ : State) : (next : ℕ) (printed : List ℕ) → CacheTables → State → Type 0 where
  begins : Serves input from t₀ s₀ from [] t₀ s₀
  goes_on : (next : ℕ) (printed : List ℕ) (t : CacheTables) (s : State) → Serves input from t₀ s₀ next printed t s →
      (line : List ℕ) (t' : CacheTables) (s' : State) →
      DrivePrints (code_of (record_at input next)) (key_of (record_at input next)) (value_of (record_at input next)) t s line t' s' →
      Serves input from t₀ s₀ (next + RECORD) (printed ++ line) t' s'

-- what the records print stands at the start of the output buffer; where there is a whole record, at least one is carried out
pub record DriveFeeds (input : List ℕ) (from end : ℕ) (t : CacheTables) (s : State) (t' : CacheTables) (s' : State) (out' : List ℕ) (r : Fed) : Type 0 where
  pub inside : r.next ≤ end
  pub room : r.at ≤ length out'
  pub goes : from + RECORD ≤ end → from < r.next
  pub served : Serves input from t s r.next (take r.at out') t' s'

-- a turn carries out records and writes what they print; where less than a record is left it changes no table
pub record DriveTurns (input : List ℕ) (from end : ℕ) (t : CacheTables) (s : State) (items' input' : List ℕ) (t' : CacheTables) (s' : State) (out' : List ℕ) (r : Turned) : Type 0 where
  pub buffers : DriveBuffers items' input' r.next r.end out'
  pub goes : from + RECORD ≤ end → from < r.next
  pub served : from + RECORD ≤ end → Serves input from t s r.next (take r.at out') t' s'
  pub waits : end < from + RECORD → (t' ≡ t) × (s' ≡ s)
