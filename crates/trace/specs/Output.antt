-- What the trace program prints for a whole input. The input is read byte by byte; each seventeenth byte after the header ends a record,
-- whose line is then printed. So an input that is read in parts prints what it prints as a whole (`runs_on` of proofs/Running.antt).
use Rattle.std.specs.Prelude.{cond, List, [], ◌∷◌, ◌++◌, ℕ, ◌+◌, ◌*◌, eqb, ltb, length, take, drop, get_or, Result, Ok, Err}
use Rattle.ledger.specs.Cache.{Cache, new_cache}
use Rattle.ledger.specs.History.{Len}
use Rattle.trace.specs.declared.Word.{Word}
use Rattle.trace.specs.declared.Word.TheVariants as word
use Rattle.trace.specs.declared.Line.TheVariants.{Plain}
use Rattle.trace.specs.Lines.{text, tells, step}

-- a number from its bytes, low byte first
abbrev pub little : List ℕ → ℕ
little [] = 0
little (b ∷ bs) = b + 256 * little bs

-- a record: operation, key, value, the last two eight bytes each
abbrev pub RECORD : ℕ
RECORD = 17

-- the capacity at most, which is the places of the program's tables
abbrev pub SLOTS : ℕ
SLOTS = 256

abbrev pub code_of : List ℕ → ℕ
code_of bs = get_or bs 0 0

abbrev pub key_of : List ℕ → ℕ
key_of bs = little (take 8 (drop 1 bs))

abbrev pub value_of : List ℕ → ℕ
value_of bs = little (take 8 (drop 9 bs))

-- what is printed so far, the cache, and the bytes of a record that has not ended
pub record Run : Type 0 where
  pub printed : List ℕ
  pub cache : Cache
  pub pending : List ℕ

abbrev pub run : List ℕ → Cache → List ℕ → Run
run out c bs = record { printed = out; cache = c; pending = bs }

-- a whole record, after what was printed
unfoldable pub ended : List ℕ → Cache → (bytes : List ℕ) → Run
ended out c bs =
    let s = step (code_of bs) (key_of bs) (value_of bs) c in
    run (out ++ text s.0) s.1 []

-- one more byte
unfoldable pub reads : Run → ℕ → Run
reads r b =
    let bs = r.pending ++ (b ∷ []) in
    cond (eqb (length bs) RECORD) (ended r.printed r.cache bs) (run r.printed r.cache bs)

-- more bytes
unfoldable pub runs : Run → List ℕ → Run
runs r [] = r
runs r (b ∷ bs) = runs (reads r b) bs

-- at the end of the input: `CUT` inside a record, else `END` and the number of bound keys
abbrev pub last_line : Cache → (pending : List ℕ) → List ℕ
last_line c [] = text (tells Len c).0
last_line c (b ∷ bs) = text (Plain word.Cut)

abbrev pub finished : Run → List ℕ
finished r = r.printed ++ last_line r.cache r.pending

-- How an input begins

-- the bytes before the records
abbrev pub HEADER : ℕ
HEADER = 2

-- two bytes of capacity, low byte first
abbrev pub capacity_of : List ℕ → ℕ
capacity_of bs = little (take 2 bs)

-- what the first bytes come to: `CUT` where there are too few, `CAPACITY` where the tables have too few places, else the capacity
unfoldable pub header_of : List ℕ → Result ℕ Word
header_of bs =
    cond (ltb (length bs) HEADER) (Err word.Cut)
    (cond (ltb SLOTS (capacity_of bs)) (Err word.Capacity)
    (Ok (capacity_of bs)))

-- the whole output: that word alone, or the lines of the records and the last line
abbrev pub begun : Result ℕ Word → (records : List ℕ) → List ℕ
begun (Err w) bs = text (Plain w)
begun (Ok capacity) bs = finished (runs (run [] (new_cache capacity) []) bs)

unfoldable pub output : List ℕ → List ℕ
output bs = begun (header_of bs) (drop HEADER bs)
