-- Distinct numbers below n against the numbers below n that have a mark: at most as many, and as many only if no other number has
-- the mark. What carries it: a list of distinct numbers has each at most once, so that its length is a total (Totals.antt).
use mathlib.Core.Path.{◌≡◌, refl, sym, ap, ◌∙◌, subst}
use mathlib.Core.Bool.{Bool, true, false, not}
use mathlib.Core.List.{List, [], ◌∷◌}
use Prim.Native.Nat.{ℕ, ◌+◌, ◌≤◌, ◌<◌}
use native.Mathlib.Numerals.{add-one}
use native.Mathlib.Omega.{arith}
use lib.ListN.{length}
use Rattle.lists.specs.Lists.{All, In, Without, Distinct, times}
use Rattle.lists.specs.Marks.{mark, count}
use Rattle.lists.proofs.Tests.{if_eq, by_eq, neither}
use Rattle.lists.proofs.Members.{all_any, all_map, without_times, in_times, times_in, times_without, in_without}
use Rattle.lists.proofs.Totals.{total_le, total_same, total_tight, total_add, total_ones, length_total}

pub distinct_times : (k : ℕ) (fs : List ℕ) → Distinct fs → times k fs ≤ 1
distinct_times k [] d = omega arith
distinct_times k (x ∷ fs) d =
    if_eq (λ m. m + times k fs ≤ 1) x k
    (λ e. omega (arith, without_times k fs (subst (λ (j : ℕ). Without j fs) e d.0)))
    (λ q. omega (arith, distinct_times k fs d.1))

-- what counts up in a loop
pub count_more : (p : ℕ → Bool) (i : ℕ) → count p (i + 1) ≡ count p i + mark (p i)
count_more p i = rw add-one

pub count_le : (p : ℕ → Bool) (n : ℕ) → count p n ≤ n
count_le p n = omega (arith, total_le (λ k. mark (p k)) (λ k. 1) n (λ k l. mark_le (p k)), total_ones n)
  where
    mark_le : (b : Bool) → mark b ≤ 1
    mark_le true = omega arith
    mark_le false = omega arith

-- each number has the mark or not
pub count_not : (p : ℕ → Bool) (n : ℕ) → count p n + count (λ k. not (p k)) n ≡ n
count_not p n =
    omega (arith, total_add (λ k. mark (p k)) (λ k. mark (not (p k))) n, total_same (λ k. mark (p k) + mark (not (p k))) (λ k. 1) n (λ k l. one_of (p k)), total_ones n)
  where
    one_of : (b : Bool) → mark b + mark (not b) ≡ 1
    one_of true = refl
    one_of false = refl

-- Distinct numbers below n that all have the mark.
module _ (p : ℕ → Bool) (n : ℕ) (fs : List ℕ) (distinct : Distinct fs) (below : All (λ x. x < n) fs) (marked : All (λ x. p x ≡ true) fs) where
  unmarked_times : (k : ℕ) → p k ≡ false → times k fs ≡ 0
  unmarked_times k e =
      without_times k fs (all_map (λ x. p x ≡ true) (λ x. x ≡ k → ⊥) (λ x m q. neither (p x) m (ap p q ∙ e)) fs marked)

  at_most : (k : ℕ) → times k fs ≤ mark (p k)
  at_most k = go (p k) refl
    where
      go : (b : Bool) → p k ≡ b → times k fs ≤ mark b
      go true e = distinct_times k fs distinct
      go false e = omega (arith, unmarked_times k e)

  pub marked_le : length fs ≤ count p n
  marked_le = omega (arith, length_total n fs below, total_le (λ k. times k fs) (λ k. mark (p k)) n (λ k l. at_most k))

  -- as many as have the mark: no other number has it
  pub marked_all : length fs ≡ count p n → (s : ℕ) → s < n → p s ≡ true → In s fs
  marked_all e s l m =
      let tight = total_tight (λ k. times k fs) (λ k. mark (p k)) n (λ k i. at_most k) (omega (arith, length_total n fs below)) s l in
      times_in s fs (omega (arith, ap mark m))

  -- and if no other number has the mark, then they are as many
  pub marked_cover : ((s : ℕ) → s < n → p s ≡ true → In s fs) → length fs ≡ count p n
  marked_cover h = length_total n fs below ∙ total_same (λ k. times k fs) (λ k. mark (p k)) n (λ k l. go k l (p k) refl)
    where
      go : (k : ℕ) → k < n → (b : Bool) → p k ≡ b → times k fs ≡ mark b
      go k l true e = omega (arith, in_times k fs (h k l e), distinct_times k fs distinct)
      go k l false e = unmarked_times k e

-- Distinct numbers below n that all have no mark: the same, for the mark "not p".
module _ (p : ℕ → Bool) (n : ℕ) (fs : List ℕ) (distinct : Distinct fs) (below : All (λ x. x < n) fs) (unmarked : All (λ x. p x ≡ false) fs) where
  others : All (λ x. not (p x) ≡ true) fs
  others = all_map (λ x. p x ≡ false) (λ x. not (p x) ≡ true) (λ x e. ap not e) fs unmarked

  -- together with the marked ones they are at most n
  pub pigeon : count p n + length fs ≤ n
  pigeon = omega (arith, marked_le (λ k. not (p k)) n fs distinct below others, count_not p n)

  -- if they are n, then each other number has the mark
  pub pigeon_others : count p n + length fs ≡ n → (s : ℕ) → s < n → Without s fs → p s ≡ true
  pigeon_others e s l w = go (p s) refl
    where
      go : (b : Bool) → p s ≡ b → b ≡ true
      go true q = refl
      go false q =
          let i = marked_all (λ k. not (p k)) n fs distinct below others (omega (arith, count_not p n)) s l (ap not q) in
          absurd (in_without s fs i w)

  -- and if each other number has the mark, then they are n
  pub pigeon_cover : ((s : ℕ) → s < n → Without s fs → p s ≡ true) → count p n + length fs ≡ n
  pigeon_cover h = omega (arith, marked_cover (λ k. not (p k)) n fs distinct below others (λ s l q. go s l q), count_not p n)
    where
      go : (s : ℕ) → s < n → not (p s) ≡ true → In s fs
      go s l q = by_eq (times s fs) 0 (λ e. absurd (neither (p s) (h s l (times_without s fs e)) (off (p s) q))) (λ d. times_in s fs (omega arith))
        where
          off : (b : Bool) → not b ≡ true → b ≡ false
          off true e = sym e
          off false e = refl

-- distinct numbers below n are n at most
pub distinct_few : (n : ℕ) (fs : List ℕ) → Distinct fs → All (λ x. x < n) fs → length fs ≤ n
distinct_few n fs d b = omega (arith, pigeon (λ k. false) n fs d b (all_any (λ x. false ≡ false) (λ x. refl) fs))
