-- Each word that was passed is as a cleared index has it.
use Prim.Native.Nat.{ℕ, ◌<◌}
use mathlib.Core.Path.{◌≡◌}
use lib.ListN.{get_or}
use Rattle.key_index.specs.Cleared.{cleared_cell}
use Rattle.key_index.proofs.clear.Given as goal

abbrev pub invariant-loop-i : goal.invariant-loop-i
invariant-loop-i l = (k : ℕ) → k < l.i → get_or l.index k 0 ≡ cleared_cell l.half k
