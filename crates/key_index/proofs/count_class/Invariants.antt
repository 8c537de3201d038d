-- The law of a walk of one class, with the slots met so far, how many they are, and the last of them.
use Prim.Native.Nat.{ℕ, ◌≤◌, ◌-◌}
use mathlib.Core.Path.{◌≡◌}
use mathlib.Core.List.{List}
use lib.ListN.{length}
use Rattle.numbers.specs.Marks.{NONE}
use Rattle.lists.specs.Lists.{final}
use Rattle.key_index.proofs.Check.{Meeting}
use Rattle.key_index.proofs.count_class.Given as goal

abbrev pub invariant-loop-at : goal.invariant-loop-at
invariant-loop-at l =
    (l.capacity ≡ length l.keys) × (l.steps ≤ l.capacity)
    × ((us : List ℕ) × (length us ≡ l.steps) × (final NONE us ≡ l.last) × Meeting l.index l.keys l.class us l.at)

abbrev pub decreases-loop-at : goal.decreases-loop-at
decreases-loop-at l = l.capacity - l.steps
