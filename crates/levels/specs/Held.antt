-- What the five tables hold.
use Rattle.std.specs.Prelude.{◌≡◌, List, ◌++◌, map, ℕ, ◌<◌, ◌≤◌, length, get_or}
use Rattle.numbers.specs.Marks.{LIMIT, NONE}
use Rattle.lists.specs.Lists.{All, Without, final}
use Rattle.links.specs.Linked.{Ring, linked}
use Rattle.bucket_table.specs.declared.Buckets.{Buckets}
use Rattle.bucket_table.specs.Records.{Row, nums, owner, RecordsHold}
use Rattle.levels.specs.Levels.{Level, level}

-- the lent tables
pub record Tabs : Type 0 where
  pub freqs : List ℕ
  pub prevs : List ℕ
  pub nexts : List ℕ
  pub buckets : List ℕ
  pub spares : List ℕ

abbrev pub tabs : List ℕ → List ℕ → List ℕ → List ℕ → List ℕ → Tabs
tabs f p n b sp = record { freqs = f; prevs = p; nexts = n; buckets = b; spares = sp }

-- a level as it lies in the tables: its record, and its slots
pub record Line : Type 0 where
  pub row : Row
  pub slots : List ℕ

abbrev pub line : Row → List ℕ → Line
line w xs = record { row = w; slots = xs }

-- the records of the lines, and the levels that they stand for
abbrev pub rows : List Line → List Row
rows ls = map (λ l. l.row) ls

abbrev pub view : List Line → List Level
view ls = map (λ l. level l.row.freq l.slots) ls

-- x is in no line
abbrev pub Missing : ℕ → List Line → Type 0
Missing x ls = All (λ l. Without x l.slots) ls

-- the slots of a line are linked from its head to its tail, and each has the line's frequency and record
pub record LineHeld (f p n b : List ℕ) (l : Line) : Type 0 where
  pub ring : Ring (linked p n l.row.ends) l.slots
  pub own : All (λ x. (get_or f x 0 ≡ l.row.freq) × (owner b x ≡ l.row.num)) l.slots

-- slot k is marked free
pub record Free (f p n : List ℕ) (k : ℕ) : Type 0 where
  pub next_own : get_or n k 0 ≡ k
  pub prev_own : get_or p k 0 ≡ k
  pub freq_zero : get_or f k 0 ≡ 0

-- three tables of one length, at most the limit
pub record Even (f p n : List ℕ) : Type 0 where
  pub limit : length f ≤ LIMIT
  pub prevs_size : length p ≡ length f
  pub nexts_size : length n ≡ length f

-- the tables hold the lines, of which some may be empty, and every other slot is marked free
pub record Lines (t : Tabs) (s : Buckets) (ls : List Line) : Type 0 where
  pub even : Even t.freqs t.prevs t.nexts
  pub spares_size : length t.spares ≡ length t.freqs
  pub records : RecordsHold t.buckets t.spares s (rows ls)
  pub each : All (LineHeld t.freqs t.prevs t.nexts t.buckets) ls
  pub free : (k : ℕ) → k < length t.freqs → Missing k ls → Free t.freqs t.prevs t.nexts k

-- a line has slots
abbrev pub Some : Line → Type 0
Some l = 0 < length l.slots

-- the tables hold the levels: one line for each, and none is empty
pub record Held (t : Tabs) (s : Buckets) (ls : List Level) : Type 0 where
  pub lines : List Line
  pub rep : Lines t s lines
  pub some : All Some lines
  pub seen : view lines ≡ ls

-- the tables hold some levels
abbrev pub LevelsSound : Tabs → Buckets → Type 0
LevelsSound t s = (ls : List Level) × Held t s ls

-- the tables hold the levels us and, above them, vs; `at` is the record of the last of us, NONE where there is none
pub record Parted (t : Tabs) (s : Buckets) (at : ℕ) (us vs : List Level) : Type 0 where
  pub lower : List Line
  pub upper : List Line
  pub rep : Lines t s (lower ++ upper)
  pub some : All Some (lower ++ upper)
  pub seen_lower : view lower ≡ us
  pub seen_upper : view upper ≡ vs
  pub place : at ≡ final NONE (nums (rows lower))
