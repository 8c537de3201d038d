-- Sums over the numbers below n, and how often the numbers of a list stand among them. What carries it: members whose numbers lie
-- below n are counted number by number; and where one function is at most another at each number, their totals are equal only if
-- they are equal at each number.
use mathlib.Core.Path.{◌≡◌, refl, sym, ◌∙◌, subst}
use mathlib.Core.List.{List, [], ◌∷◌}
use Prim.Native.Nat.{ℕ, zero, suc, ◌+◌, ◌≤◌, ◌<◌}
use native.Mathlib.Omega.{arith}
use lib.ListN.{length}
use Rattle.lists.specs.Lists.{All, sum, one, times}
use Rattle.lists.specs.Marks.{total}
use Rattle.lists.proofs.Tests.{one_same, one_other, by_eq}

pub total_le : (f g : ℕ → ℕ) (n : ℕ) → ((k : ℕ) → k < n → f k ≤ g k) → total f n ≤ total g n
total_le f g zero h = omega arith
total_le f g (suc n) h = omega (arith, total_le f g n (λ k l. h k (omega arith)), h n (omega arith))

pub total_same : (f g : ℕ → ℕ) (n : ℕ) → ((k : ℕ) → k < n → f k ≡ g k) → total f n ≡ total g n
total_same f g n h = omega (arith, total_le f g n (λ k l. omega (arith, h k l)), total_le g f n (λ k l. omega (arith, h k l)))

-- nowhere more, and in total not less: everywhere the same
pub total_tight : (f g : ℕ → ℕ) (n : ℕ) → ((k : ℕ) → k < n → f k ≤ g k) → total g n ≤ total f n → (k : ℕ) → k < n → f k ≡ g k
total_tight f g zero h e k l = absurd (omega arith)
total_tight f g (suc n) h e k l =
    let below = total_le f g n (λ j m. h j (omega arith)) in
    let here = h n (omega arith) in
    by_eq k n
    (λ q. subst (λ (j : ℕ). f j ≡ g j) (sym q) (omega arith))
    (λ d. total_tight f g n (λ j m. h j (omega arith)) (omega arith) k (omega arith))

pub total_add : (f g : ℕ → ℕ) (n : ℕ) → total (λ k. f k + g k) n ≡ total f n + total g n
total_add f g zero = omega arith
total_add f g (suc n) = omega (arith, total_add f g n)

pub total_ones : (n : ℕ) → total (λ k. 1) n ≡ n
total_ones zero = refl
total_ones (suc n) = omega (arith, total_ones n)

total_zeros : (n : ℕ) → total (λ k. 0) n ≡ 0
total_zeros zero = refl
total_zeros (suc n) = omega (arith, total_zeros n)

-- Lists whose members have numbers below n

one_above : (x n : ℕ) → n ≤ x → total (λ k. one x k) n ≡ 0
one_above x n h = total_same (λ k. one x k) (λ k. 0) n (λ k l. one_other x k (λ e. omega arith)) ∙ total_zeros n

one_below : (x n : ℕ) → x < n → total (λ k. one x k) n ≡ 1
one_below x zero h = absurd (omega arith)
one_below x (suc n) h =
    by_eq x n
    (λ e. omega (arith, one_same x n e, one_above x n (omega arith)))
    (λ d. omega (arith, one_other x n d, one_below x n (omega arith)))

module _ {A : Type 0} (h : A → ℕ) (n : ℕ) where
  -- a list is as long as how often each number stands in it, in total
  pub length_by : (xs : List A) → All (λ x. h x < n) xs → length xs ≡ total (λ k. sum (λ x. one (h x) k) xs) n
  length_by [] b = sym (total_zeros n)
  length_by (x ∷ xs) b =
      omega (arith, length_by xs b.1, total_add (λ k. one (h x) k) (λ k. sum (λ x. one (h x) k) xs) n, one_below (h x) n b.0)

pub length_total : (n : ℕ) (fs : List ℕ) → All (λ x. x < n) fs → length fs ≡ total (λ k. times k fs) n
length_total n fs b = length_by (λ (x : ℕ). x) n fs b
