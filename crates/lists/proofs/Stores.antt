-- A table that is filled from the front, one store a turn: what each cell below i is. One case split per cell.
use mathlib.Core.Path.{◌≡◌, sym, ◌∙◌, subst}
use Prim.Native.Nat.{ℕ, ◌+◌, ◌<◌}
use native.Mathlib.Omega.{arith}
use mathlib.Core.List.{List}
use lib.ListN.{length, get_or, set}
use lib.Seq.{get_or-set_same, get_or-set_other}
use Rattle.lists.proofs.Tests.{by_eq}

pub stored_more : (f : ℕ → ℕ) (t : List ℕ) (i v : ℕ) → i < length t → v ≡ f i → ((k : ℕ) → k < i → get_or t k 0 ≡ f k) → (k : ℕ) → k < i + 1 → get_or (set t i v) k 0 ≡ f k
stored_more f t i v l e h k b =
    by_eq k i
    (λ q. subst (λ (j : ℕ). get_or (set t i v) j 0 ≡ f j) (sym q) (get_or-set_same t i v 0 l ∙ e))
    (λ d. get_or-set_other t i k v 0 d ∙ h k (omega arith))
