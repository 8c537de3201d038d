-- What every change of frequencies has in common: levels stay levels, none rises, and none falls past another. Carried by the laws of
-- `halved_times`; of lowering it is plain arithmetic.
use Prim.Native.Nat.{ℕ, ◌≤◌}
use native.Mathlib.Omega.{arith}
use lib.Pow.{shr_le}
use Rattle.numbers.proofs.Halved.{halved_times_few, halved_times_many}
use Rattle.lists.proofs.Tests.{by_lt}
use Rattle.ledger.specs.Regroup.{NeverFalls}
use Rattle.ledger.proofs.Halvings.{halved_times_up}
use Rattle.buckets_regroup.specs.declared.Change.{Change}
use Rattle.buckets_regroup.specs.declared.Change.TheVariants.{Halved, Lowered}
use Rattle.buckets_regroup.specs.Change.{changed}

pub record Lowers (g : ℕ → ℕ) : Type 0 where
  pub up : NeverFalls g
  pub some : (f : ℕ) → 1 ≤ g f
  pub less : (f : ℕ) → 1 ≤ f → g f ≤ f

pub changed_lowers : (c : Change) → Lowers (changed c)
changed_lowers (Halved n) = record {
  up = halved_times_up n;
  some = λ f. by_lt n 64 (λ h. omega (arith, halved_times_few n f h)) (λ h. omega (arith, halved_times_many n f h));
  less = λ f l. by_lt n 64 (λ h. omega (arith, halved_times_few n f h, shr_le f n)) (λ h. omega (arith, halved_times_many n f h));
}
changed_lowers (Lowered n) = record { up = λ f h l. omega arith; some = λ f. omega arith; less = λ f l. omega arith }
