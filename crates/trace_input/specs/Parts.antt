-- What a part of the input prints, and that an input is read in parts.
use Rattle.std.specs.Prelude.{◌≡◌, cond, List, [], ◌∷◌, ◌++◌, ℕ, ◌+◌, ◌*◌, ◌≤◌, ◌<◌, ltb, length, take}
use Rattle.ledger.specs.Cache.{Cache}
use Rattle.buckets_tables.specs.declared.State.{State}
use Rattle.cache_tables.specs.Tables.{CacheTables, CacheHolds}
use Rattle.trace.specs.Ends.{PART, last_of}
use Rattle.trace.specs.Lines.{text, LONGEST}
use Rattle.trace.specs.Output.{finished}
use Rattle.trace_input.specs.Feeding.{PRINT, part_run}

-- what a part prints: its records, and the last line where it is the last part
abbrev pub part_output : Cache → List ℕ → List ℕ
part_output c bs = cond (ltb (length bs) PART) (finished (part_run c bs)) (part_run c bs).printed

-- the last line, from the number of bytes in the part, those of a record that has not ended, and the bound keys
abbrev pub closing : (n left count : ℕ) → List ℕ
closing n left count = cond (ltb n PART) (text (last_of left count)) []

-- the buffers take a full part, and what it prints with one line more
pub record PartBuffers (input out : List ℕ) : Type 0 where
  pub reads : PART ≤ length input
  pub prints : PART * PRINT + LONGEST ≤ length out

-- the buffer has what the part prints, and the tables hold the cache after it
pub record PrintedBy (c : Cache) (bs : List ℕ) (t' : CacheTables) (s' : State) (out' : List ℕ) (r : ℕ) : Type 0 where
  pub printed : take r out' ≡ part_output c bs
  pub holds : CacheHolds t' s' (part_run c bs).cache

pub record Parts (t : CacheTables) (s : State) (input : List ℕ) (n : ℕ) (t' : CacheTables) (s' : State) (out' : List ℕ) (r : ℕ) : Type 0 where
  pub room : r ≤ length out'
  pub prints : (c : Cache) → CacheHolds t s c → PrintedBy c (take n input) t' s' out' r

-- a buffer that begins with some bytes, up to r
pub record InputShows (bytes out' : List ℕ) (r : ℕ) : Type 0 where
  pub room : r ≤ length out'
  pub printed : take r out' ≡ bytes

-- an input that is read in parts: all are full but the last
abbrev pub InParts : List (List ℕ) → Type 0
InParts [] = ⊥
InParts (p ∷ []) = length p < PART
InParts (p ∷ (q ∷ ps)) = (length p ≡ PART) × InParts (q ∷ ps)

-- what the parts print, one after another, each with the cache that the one before it left
abbrev pub printed_by : Cache → List (List ℕ) → List ℕ
printed_by c [] = []
printed_by c (p ∷ ps) = part_output c p ++ printed_by (part_run c p).cache ps

-- the parts put together
abbrev pub joined : List (List ℕ) → List ℕ
joined [] = []
joined (p ∷ ps) = p ++ joined ps
