-- Each cell that was passed is as a filled table has it; the law of filling does the rest.
use Prim.Native.Nat.{ℕ, ◌<◌}
use mathlib.Core.Path.{◌≡◌}
use lib.ListN.{get_or}
use Rattle.slot_arena.specs.Fill.{filled_cell}
use Rattle.slot_arena.proofs.sound.fill.Given as goal

abbrev pub invariant-loop-i : goal.invariant-loop-i
invariant-loop-i l = (k : ℕ) → k < l.i → get_or l.arena k 0 ≡ filled_cell l.capacity k
