-- The slots passed have smaller keys; the keys ascend, so that what is ahead shrinks.
use mathlib.Core.Path.{◌≡◌}
use lib.ListN.{length, get_or}
use Rattle.key_index.proofs.Placing.{Placing, ahead}
use Rattle.key_index.proofs.sound.place.Given as goal

abbrev pub invariant-loop-s : goal.invariant-loop-s
invariant-loop-s l = (l.capacity ≡ length l.keys) × (l.s ≡ get_or l.index l.at 0) × Placing l.index l.keys l.key.0 l.at

abbrev pub decreases-loop-s : goal.decreases-loop-s
decreases-loop-s l = ahead l.keys l.key.0 l.s
