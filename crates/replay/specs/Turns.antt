-- What a turn of a replay does. What is read and where it is written to no contract can say: the bytes that were read are at the start of
-- the input buffer, those that are written at the start of the output buffer.
use Rattle.std.specs.Prelude.{◌≡◌, List, ℕ, ◌≤◌}
use Rattle.buckets_tables.specs.declared.State.{State}
use Rattle.cache_tables.specs.Tables.{CacheTables}
use Rattle.trace.specs.Ends.{PART, goes_on}
use Rattle.trace_input.specs.Parts.{Parts}
use Rattle.replay.specs.declared.Turned.{Turned}

-- what was read is a part, and what it prints is written; there is more to read after a full part whose lines could be written
pub record ReplayTurns (t : CacheTables) (s : State) (input : List ℕ) (t' : CacheTables) (s' : State) (out' : List ℕ) (r : Turned) : Type 0 where
  pub fits : r.read ≤ PART
  pub parts : Parts t s input r.read t' s' out' r.at
  pub goes_on : r.more ≡ goes_on r.written r.read
