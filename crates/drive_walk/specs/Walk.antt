-- What the walk of a frequency prints: the number of a refusal alone, or 0 and the ledger's list of the frequency, head first, each item as
-- ` slot:key:epoch`.
use Rattle.std.specs.Prelude.{◌≡◌, List, [], ◌∷◌, ◌++◌, ℕ, ◌+◌, ◌*◌, ◌≤◌, ◌<◌, length, get_or, Option, Some, Ok}
use Rattle.numbers.specs.Marks.{LIMIT}
use Rattle.numbers.specs.Answer.{DONE}
use Rattle.numbers.specs.declared.Refusal.TheVariants.{Corrupt, Short, Capacity}
use Rattle.numbers.specs.declared.Slot.{Slot}
use Rattle.lists.specs.Lists.{All}
use Rattle.ledger.specs.Ledger.{Item}
use Rattle.ledger.specs.Buckets.{refused}
use Rattle.ledger.specs.Walk.{list_of}
use Rattle.promise.specs.Promise.{Sound, Reading, over, short, corrupt, ledger, Reads}
use Rattle.buckets_tables.specs.declared.State.{State}
use Rattle.buckets_tables.specs.Tables.{Tables, tables}
use Rattle.buckets_tables.specs.Lent.{buckets}
use Rattle.frequency_buckets_walker.specs.declared.Stand.{Stand}
use Rattle.frequency_buckets_walker.specs.Walks.{Shows}
use Rattle.trace.specs.Lines.{DIGITS, FEED, decimal, spaced}
use Rattle.trace.specs.Written.{Writes, Spells}
use Rattle.drive_lines.specs.Lines.{reply_text}

-- Bytes

abbrev pub COLON : ℕ
COLON = 58

-- a number behind a colon
abbrev pub behind : ℕ → List ℕ
behind n = (COLON ∷ []) ++ decimal n

abbrev pub item_text : (slot key epoch : ℕ) → List ℕ
item_text x k e = spaced x ++ (behind k ++ behind e)

abbrev pub items_text : List Item → List ℕ
items_text [] = []
items_text (x ∷ xs) = item_text x.slot x.key x.epoch ++ items_text xs

-- the line, by what is read from the tables
abbrev pub walk_text : (frequency : ℕ) → Reading buckets → List ℕ
walk_text g over = reply_text (refused Capacity)
walk_text g short = reply_text (refused Short)
walk_text g corrupt = reply_text (refused Corrupt)
walk_text g (ledger l) = decimal (DONE) ++ (items_text (list_of g l.levels) ++ (FEED ∷ []))

-- room for an item, and for a line of as many as there are slots at most
abbrev pub ITEM : ℕ
ITEM = (1 + DIGITS) + ((1 + DIGITS) + (1 + DIGITS))

abbrev pub WALK : ℕ
WALK = DIGITS + (LIMIT * ITEM + 1)

-- Promises

-- keys, epochs and links are lent: with some other tables and some state they are sound
abbrev pub Listable : (k e n : List ℕ) → Type 0
Listable k e n = (f : List ℕ) × (p : List ℕ) × (a : List ℕ) × (i : List ℕ) × (b : List ℕ) × (sp : List ℕ) × (s : State) × Sound buckets (tables k f e p n a i b sp) s

-- a slot that the reader has answered has a place in the table of keys
abbrev pub Placed : List ℕ → Stand → Type 0
Placed k r = (x : Slot) → r.answer ≡ Ok (Some x) → x.0 < length k

-- the tables say an item's key and epoch at its slot
abbrev pub Says : (k e : List ℕ) → Item → Type 0
Says k e x = (get_or k x.slot 0 ≡ x.key) × (get_or e x.slot 0 ≡ x.epoch)

-- what the reader shows from where it stands is written, where it is no longer than the tables
pub record Lists (k e n : List ℕ) (st : Stand) (out : List ℕ) (at : ℕ) (out' : List ℕ) (r : ℕ) : Type 0 where
  pub room : r ≤ at + length k * ITEM
  pub writes : (xs : List Item) → Shows n st xs → All (Says k e) xs → length xs ≤ length k → Writes out at (items_text xs) out' r

-- the line of what is read from the tables
abbrev pub WalkPrints : (frequency : ℕ) → Tables → State → (out : List ℕ) (at : ℕ) (out' : List ℕ) (r : ℕ) → Type 0
WalkPrints g t s out at out' r = (v : Reading buckets) × Reads buckets t s v × Spells out at (walk_text g v) WALK out' r
