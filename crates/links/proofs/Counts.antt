-- How many words of a table pass a test, counted place by place.
use mathlib.Core.Path.{◌≡◌, refl, sym, ap, ◌∙◌, subst}
use mathlib.Core.Bool.{Bool, true, false}
use mathlib.Core.List.{List}
use Prim.Native.Nat.{ℕ, zero, suc, ◌+◌, ◌≤◌, ◌<◌}
use native.Mathlib.Numerals.{add-one}
use native.Mathlib.Omega.{arith}
use lib.ListN.{length, take}
use Rattle.std.specs.Prelude.{count_by}
use Rattle.std.proofs.Math.Seq.{take-length}
use Rattle.std.proofs.lemmas.List.Sums.{count_by_more_yes, count_by_more_no}
use Rattle.lists.specs.Marks.{mark, count}
use Rattle.lists.proofs.Pigeonhole.{count_more}
use Rattle.links.specs.Chain.{cells}

module _ (p : ℕ → Bool) (t : List ℕ) where
  next : (n : ℕ) → n < length t → count_by p (take n t) ≡ count (λ k. p (cells t k)) n → count_by p (take (n + 1) t) ≡ count (λ k. p (cells t k)) (n + 1)
  next n l so = go (p (cells t n)) refl
    where
      more : count (λ k. p (cells t k)) (n + 1) ≡ count (λ k. p (cells t k)) n + mark (p (cells t n))
      more = count_more (λ k. p (cells t k)) n

      go : (b : Bool) → p (cells t n) ≡ b → count_by p (take (n + 1) t) ≡ count (λ k. p (cells t k)) (n + 1)
      go true e = omega (arith, so, more, ap mark e, count_by_more_yes p t n 0 l e)
      go false e = omega (arith, so, more, ap mark e, count_by_more_no p t n 0 l e)

  so_far : (n : ℕ) → n ≤ length t → count_by p (take n t) ≡ count (λ k. p (cells t k)) n
  so_far zero l = refl
  so_far (suc n) l = subst (λ (m : ℕ). count_by p (take m t) ≡ count (λ k. p (cells t k)) m) (add-one n) (next n (omega arith) (so_far n (omega arith)))

  pub count_cells : count_by p t ≡ count (λ k. p (cells t k)) (length t)
  count_cells = ap (count_by p) (sym (take-length t)) ∙ so_far (length t) (omega arith)
