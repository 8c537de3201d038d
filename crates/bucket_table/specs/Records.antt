-- What the bucket table holds: the records in use, from the lowest frequency up.
use Rattle.std.specs.Prelude.{◌≡◌, ◌⊎◌, List, [], ◌∷◌, map, ℕ, ◌+◌, ◌*◌, ◌<◌, ◌≤◌, length, get_or}
use Rattle.numbers.specs.Marks.{NONE}
use Rattle.numbers.specs.Frequency.{CEILING}
use Rattle.lists.specs.Lists.{All}
use Rattle.links.specs.Ring.{Links, look}
use Rattle.links.specs.declared.Ends.{Ends}
use Rattle.slot_arena.specs.Arena.{Uses}
use Rattle.bucket_table.specs.declared.Buckets.{Buckets}

-- how many words a record has
abbrev pub WORDS : ℕ
WORDS = 7

-- word w of each record
abbrev pub word : ℕ → List ℕ → ℕ → ℕ
word w b r = get_or b (r * WORDS + w) 0

-- the frequency of a record
abbrev pub frequency : List ℕ → ℕ → ℕ
frequency b = word 0 b

-- the next lower record, and the next higher one
abbrev pub lower : List ℕ → ℕ → ℕ
lower b = word 1 b

abbrev pub higher : List ℕ → ℕ → ℕ
higher b = word 2 b

-- the first and the last slot of a record's list
abbrev pub head : List ℕ → ℕ → ℕ
head b = word 3 b

abbrev pub tail : List ℕ → ℕ → ℕ
tail b = word 4 b

-- how many slots the list has
abbrev pub count : List ℕ → ℕ → ℕ
count b = word 5 b

-- the record that a slot is in
abbrev pub owner : List ℕ → ℕ → ℕ
owner b = word 6 b

-- the record above one, and the record below: above NONE is the lowest, below NONE the highest
abbrev pub up : List ℕ → Buckets → ℕ → ℕ
up b s = look (higher b) s.bottom

abbrev pub down : List ℕ → Buckets → ℕ → ℕ
down b s = look (lower b) s.top

-- the table has all words of record r
abbrev pub InTable : List ℕ → ℕ → Type 0
InTable b r = r * WORDS + WORDS ≤ length b

-- a record of the table, or NONE
abbrev pub Spot : List ℕ → ℕ → Type 0
Spot b i = ((i < NONE) × InTable b i) ⊎ (i ≡ NONE)

-- the ends that the table has of the list of record r
abbrev pub EndsAt : List ℕ → ℕ → Ends → Type 0
EndsAt b r e = (e.head ≡ head b r) × (e.tail ≡ tail b r) × (e.count ≡ count b r)

-- a record in use: its number, its frequency, and the ends of its list
pub record Row : Type 0 where
  pub num : ℕ
  pub freq : ℕ
  pub ends : Ends

abbrev pub row : ℕ → ℕ → Ends → Row
row r f e = record { num = r; freq = f; ends = e }

-- what the table says of record r
abbrev pub row_of : List ℕ → ℕ → Row
row_of b r = row r (frequency b r) (record { head = head b r; tail = tail b r; count = count b r })

-- the ends of an empty list
abbrev pub empty : Ends
empty = record { head = NONE; tail = NONE; count = 0 }

-- the numbers of the rows
abbrev pub nums : List Row → List ℕ
nums ws = map (λ w. w.num) ws

-- the frequencies rise from above f on, to at most the ceiling
abbrev pub RowsRise : ℕ → List Row → Type 0
RowsRise f [] = Unit {0}
RowsRise f (w ∷ ws) = (f < w.freq) × (w.freq ≤ CEILING) × RowsRise w.freq ws

-- the table has the row's frequency and ends
pub record Written (b : List ℕ) (w : Row) : Type 0 where
  pub freq_is : frequency b w.num ≡ w.freq
  pub head_is : head b w.num ≡ w.ends.head
  pub tail_is : tail b w.num ≡ w.ends.tail
  pub count_is : count b w.num ≡ w.ends.count

-- the tables hold the rows: linked both ways from the lowest up, and all other records spare
pub record RecordsHold (b sp : List ℕ) (s : Buckets) (ws : List Row) : Type 0 where
  pub size : length b ≡ length sp * WORDS
  pub ring : Links (up b s) (down b s) NONE (nums ws) NONE
  pub uses : Uses sp s.spare (nums ws)
  pub each : All (Written b) ws
  pub rising : RowsRise 0 ws

-- the tables hold some rows
abbrev pub RecordsSound : List ℕ → List ℕ → Buckets → Type 0
RecordsSound b sp s = (ws : List Row) × RecordsHold b sp s ws
