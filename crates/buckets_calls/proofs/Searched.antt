-- What a search for a key says where only whether it found one is asked.
use Rattle.std.proofs.Common.{◌≡◌, ℕ, List, true, false, Option, Some, None}
use Rattle.std.specs.Option.{is_some}
use Rattle.numbers.specs.declared.Slot.{Slot}
use Rattle.key_index.specs.Index.{Finds}

module _ (i k : List ℕ) (key : ℕ) where
  pub somewhere : (r : Option Slot) → Finds i k key r → is_some r ≡ true → (x : Slot) × Finds i k key (Some x)
  somewhere (Some x) f e = (x, f)
  somewhere None f e = absurd cc

  pub nowhere : (r : Option Slot) → Finds i k key r → is_some r ≡ false → Finds i k key None
  nowhere (Some x) f e = absurd cc
  nowhere None f e = f
