-- The place is inside or outside by the test.
use mathlib.Core.Path.{refl}
use native.Mathlib.Omega.{arith}
use Rattle.drive_damage.proofs.put.Goals as goal

pub returns-then-t-at : goal.returns-then-t-at
returns-then-t-at c = record { inside = λ h. absurd (omega arith); outside = λ h. (refl, refl) }

pub returns : goal.returns
returns c = record { inside = λ h. (refl, refl); outside = λ h. absurd (omega arith) }
