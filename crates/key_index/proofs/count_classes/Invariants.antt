-- The slots gathered so far are those of the classes below c.
use Prim.Native.Nat.{ℕ, ◌*◌, ◌≤◌}
use mathlib.Core.Path.{◌≡◌}
use mathlib.Core.List.{List}
use lib.ListN.{length}
use Rattle.key_index.specs.Check.{Gathered}
use Rattle.key_index.proofs.count_classes.Given as goal

abbrev pub invariant-loop-c : goal.invariant-loop-c
invariant-loop-c l = (l.n ≤ 4096 * l.c) × ((ms : List ℕ) × (length ms ≡ l.n) × Gathered l.index l.keys l.c ms)
