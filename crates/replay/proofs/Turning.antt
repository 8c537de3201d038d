-- Every turn leaves the tables sound.
use mathlib.Core.List.{List}
use Prim.Native.Nat.{ℕ}
use lib.ListN.{take}
use Rattle.promise.specs.Promise.{Sound}
use Rattle.buckets_tables.specs.declared.State.{State}
use Rattle.cache_tables.specs.Tables.{CacheTables}
use Rattle.cache_tables.specs.Lent.{cache}
use Rattle.trace_input.specs.Feeding.{part_run}
use Rattle.replay.specs.declared.Turned.{Turned}
use Rattle.replay.specs.Turns.{ReplayTurns}

pub turn_sound : (t : CacheTables) (s : State) (input : List ℕ) (t' : CacheTables) (s' : State) (out' : List ℕ) (r : Turned) → ReplayTurns t s input t' s' out' r →
    Sound cache t s → Sound cache t' s'
turn_sound t s input t' s' out' r turns w = ((part_run w.0 (take r.read input)).cache, (turns.parts.prints w.0 w.1).holds)
