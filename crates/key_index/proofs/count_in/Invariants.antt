-- The links passed that are not the mark are counted.
use mathlib.Core.Path.{◌≡◌}
use mathlib.Core.Bool.{not}
use lib.Dec.{eqb}
use lib.ListN.{length, drop, take}
use Rattle.std.specs.Prelude.{count_by}
use Rattle.key_index.specs.Index.{OUT}
use Rattle.key_index.proofs.count_in.Given as goal

abbrev pub invariant-loop-link : goal.invariant-loop-link
invariant-loop-link l = l.n ≡ count_by (λ w. not (eqb w OUT)) (take l.link-index (drop (length l.keys) l.index))
