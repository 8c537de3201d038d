-- All slots passed are marked free, and the tables keep their sizes.
use Prim.Native.Nat.{ℕ, ◌<◌}
use mathlib.Core.Path.{◌≡◌}
use lib.ListN.{length}
use Rattle.levels.specs.Held.{Free}
use Rattle.levels.proofs.sound.reset.Given as goal

abbrev pub invariant-loop-s : goal.invariant-loop-s
invariant-loop-s l = (length l.freqs ≡ length l.initial.freqs) × (length l.prevs ≡ length l.initial.prevs) × (length l.nexts ≡ length l.initial.nexts) × ((k : ℕ) → k < l.s → Free l.freqs l.prevs l.nexts k)
