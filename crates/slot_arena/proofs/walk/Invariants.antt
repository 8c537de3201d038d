-- The law of a walk of a chain, with the slots passed so far, how many they are, and the last of them.
use Prim.Native.Nat.{ℕ, ◌≤◌, ◌-◌}
use mathlib.Core.Path.{◌≡◌}
use mathlib.Core.List.{List}
use lib.ListN.{length}
use Rattle.numbers.specs.Marks.{NONE}
use Rattle.lists.specs.Lists.{final}
use Rattle.links.specs.Chain.{cells}
use Rattle.links.proofs.Chains.{Walking}
use Rattle.slot_arena.proofs.walk.Given as goal

abbrev pub invariant-loop-at : goal.invariant-loop-at
invariant-loop-at l =
    (l.capacity ≡ length l.arena) × (l.steps ≤ l.capacity)
    × ((us : List ℕ) × (length us ≡ l.steps) × (final NONE us ≡ l.last) × Walking (length l.arena) (cells l.arena) l.first us l.at)

abbrev pub decreases-loop-at : goal.decreases-loop-at
decreases-loop-at l = l.capacity - l.steps
