-- What carrying out a part of a trace's input does.
use Rattle.std.specs.Prelude.{◌≡◌, List, [], ℕ, ◌+◌, ◌*◌, ◌≤◌, ◌<◌, length, take, drop}
use Rattle.numbers.specs.Marks.{LIMIT}
use Rattle.ledger.specs.Cache.{Cache}
use Rattle.buckets_tables.specs.declared.State.{State}
use Rattle.buckets_tables.specs.Tables.{Sized}
use Rattle.cache_tables.specs.Tables.{CacheTables, CacheHolds}
use Rattle.trace.specs.Output.{Run, run, RECORD, runs}
use Rattle.trace_input.specs.declared.Fed.{Fed}

-- the most bytes that are printed for a byte of a record
abbrev pub PRINT : ℕ
PRINT = 3

-- the bytes of the record at a place of the input
abbrev pub record_at : List ℕ → ℕ → List ℕ
record_at input at = take RECORD (drop at input)

-- a part of the input is read from a cache at the end of a record
abbrev pub part_run : Cache → List ℕ → Run
part_run c bs = runs (run [] c []) bs

-- what the first bytes of an input print, and the cache after them
abbrev pub part : Cache → (input : List ℕ) → ℕ → Run
part c input m = part_run c (take m input)

-- the tables hold the cache after the whole records, which printed what stands in the buffer; less than a record is left
pub record FedBy (c : Cache) (input : List ℕ) (t' : CacheTables) (s' : State) (out' : List ℕ) (r : Fed) : Type 0 where
  pub printed : take r.at out' ≡ (part c input r.next).printed
  pub whole : (part c input r.next).pending ≡ []
  pub holds : CacheHolds t' s' (part c input r.next).cache

pub record Feeds (t : CacheTables) (s : State) (input : List ℕ) (n : ℕ) (t' : CacheTables) (s' : State) (out' : List ℕ) (r : Fed) : Type 0 where
  pub begun : r.next ≤ n
  pub left : n < r.next + RECORD
  pub room : r.at ≤ n * PRINT
  pub fed : (c : Cache) → CacheHolds t s c → FedBy c input t' s' out' r

-- the lengths that a capacity calls for
pub record Sizes (t : CacheTables) (c : ℕ) : Type 0 where
  pub limit : c ≤ LIMIT
  pub base : Sized t.base c
  pub values : length t.values ≡ c
