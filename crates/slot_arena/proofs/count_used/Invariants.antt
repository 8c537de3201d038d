-- The words passed that are the mark are counted.
use mathlib.Core.Path.{◌≡◌}
use lib.Dec.{eqb}
use lib.ListN.{take}
use Rattle.std.specs.Prelude.{count_by}
use Rattle.slot_arena.specs.Arena.{USED}
use Rattle.slot_arena.proofs.count_used.Given as goal

abbrev pub invariant-loop-link : goal.invariant-loop-link
invariant-loop-link l = l.used ≡ count_by (λ w. eqb w USED) (take l.link-index l.arena)
