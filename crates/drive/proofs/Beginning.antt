-- The capacity is in the first two bytes of an input, where it has them.
use mathlib.Core.Path.{◌≡◌, refl}
use mathlib.Core.List.{List, [], ◌∷◌}
use Rattle.std.proofs.Common.{Some, None}
use Prim.Native.Nat.{ℕ, ◌≤◌, ◌<◌}
use native.Mathlib.Omega.{arith}
use lib.ListN.{length, get_or}
use Rattle.trace.specs.Output.{little}
use Rattle.drive.specs.Ends.{capacity_of}

pub too_few : (bs : List ℕ) → length bs < 2 → None ≡ capacity_of bs
too_few [] h = refl
too_few (b ∷ []) h = refl
too_few (low ∷ (high ∷ bs)) h = absurd (omega arith)

pub both_read : (bs : List ℕ) → 2 ≤ length bs → Some (little (get_or bs 0 0 ∷ get_or bs 1 0 ∷ [])) ≡ capacity_of bs
both_read [] h = absurd (omega arith)
both_read (b ∷ []) h = absurd (omega arith)
both_read (low ∷ (high ∷ bs)) h = refl
