-- Laws of `All`, `In`, `final`, `from` and `sum` over lists that are taken apart and put together. Each is a plain induction on the list.
use mathlib.Core.Path.{◌≡◌, refl, sym, ap, subst}
use mathlib.Core.Logic.{◌⊎◌, inl, inr, ◌≢◌}
use mathlib.Core.List.{List, [], ◌∷◌, ◌++◌}
use Prim.Native.Nat.{ℕ, zero, suc, ◌+◌, ◌≤◌, ◌<◌}
use native.Mathlib.Omega.{arith}
use lib.ListN.{length}
use Rattle.lists.specs.Lists.{All, In, Without, Distinct, final, from, sum, times}
use Rattle.lists.proofs.Tests.{if_eq, by_eq, one_same, one_other}

module _ {A : Type 0} where
  pub all_any : (P : A → Type 0) → ((x : A) → P x) → (xs : List A) → All P xs
  all_any P f [] = tt
  all_any P f (x ∷ xs) = (f x, all_any P f xs)

  pub all_map : (P Q : A → Type 0) → ((x : A) → P x → Q x) → (xs : List A) → All P xs → All Q xs
  all_map P Q f [] h = tt
  all_map P Q f (x ∷ xs) h = (f x h.0, all_map P Q f xs h.1)

  pub all_both : (P Q R : A → Type 0) → ((x : A) → P x → Q x → R x) → (xs : List A) → All P xs → All Q xs → All R xs
  all_both P Q R f [] p q = tt
  all_both P Q R f (x ∷ xs) p q = (f x p.0 q.0, all_both P Q R f xs p.1 q.1)

  pub all_in : (P : A → Type 0) (xs : List A) (x : A) → All P xs → In x xs → P x
  all_in P [] x h x4 = elim x4 [ ]
  all_in P (y ∷ ys) x h (inl e) = subst P e h.0
  all_in P (y ∷ ys) x h (inr i) = all_in P ys x h.1 i

  pub in_all : (P : A → Type 0) (xs : List A) → ((x : A) → In x xs → P x) → All P xs
  in_all P [] h = tt
  in_all P (y ∷ ys) h = (h y (inl refl), in_all P ys (λ x i. h x (inr i)))

  -- what holds of whatever is a member holds of all
  pub all_of : (P : A → Type 0) (xs : List A) → ((x : A) → In x xs → P x) → All P xs
  all_of P [] f = tt
  all_of P (x ∷ xs) f = (f x (inl refl), all_of P xs (λ y i. f y (inr i)))

  pub all_append : (P : A → Type 0) (us vs : List A) → All P us → All P vs → All P (us ++ vs)
  all_append P [] vs h i = i
  all_append P (x ∷ us) vs h i = (h.0, all_append P us vs h.1 i)

  pub all_left : (P : A → Type 0) (us vs : List A) → All P (us ++ vs) → All P us
  all_left P [] vs h = tt
  all_left P (x ∷ us) vs h = (h.0, all_left P us vs h.1)

  pub all_right : (P : A → Type 0) (us vs : List A) → All P (us ++ vs) → All P vs
  all_right P [] vs h = h
  all_right P (x ∷ us) vs h = all_right P us vs h.1

  -- the member in the middle, and the others
  pub all_mid : (P : A → Type 0) (us : List A) (x : A) (vs : List A) → All P (us ++ x ∷ vs) → P x × All P (us ++ vs)
  all_mid P [] x vs h = h
  all_mid P (u ∷ us) x vs h = let r = all_mid P us x vs h.1 in (r.0, (h.0, r.1))

  pub all_put : (P : A → Type 0) (us : List A) (x : A) (vs : List A) → P x → All P (us ++ vs) → All P (us ++ x ∷ vs)
  all_put P [] x vs p h = (p, h)
  all_put P (u ∷ us) x vs p h = (h.0, all_put P us x vs p h.1)

  pub in_mid : (us : List A) (x : A) (vs : List A) → In x (us ++ x ∷ vs)
  in_mid [] x vs = inl refl
  in_mid (u ∷ us) x vs = inr (in_mid us x vs)

  -- where a member stands
  pub record Split (x : A) (xs : List A) : Type 0 where
    pub before : List A
    pub after : List A
    pub is : xs ≡ before ++ x ∷ after

  pub in_split : (x : A) (xs : List A) → In x xs → Split x xs
  in_split x [] x'' = elim x'' [ ]
  in_split x (y ∷ ys) (inl e) = record { before = []; after = ys; is = λ i. e i ∷ ys }
  in_split x (y ∷ ys) (inr i) =
      let r = in_split x ys i in
      record { before = y ∷ r.before; after = r.after; is = ap {B = List A} (λ zs. y ∷ zs) r.is }

  pub in_left : (x : A) (us vs : List A) → In x us → In x (us ++ vs)
  in_left x [] vs x'' = elim x'' [ ]
  in_left x (u ∷ us) vs (inl e) = inl e
  in_left x (u ∷ us) vs (inr i) = inr (in_left x us vs i)

  pub in_right : (x : A) (us vs : List A) → In x vs → In x (us ++ vs)
  in_right x [] vs i = i
  in_right x (u ∷ us) vs i = inr (in_right x us vs i)

  pub in_either : (x : A) (us vs : List A) → In x (us ++ vs) → In x us ⊎ In x vs
  in_either x [] vs i = inr i
  in_either x (u ∷ us) vs (inl e) = inl (inl e)
  in_either x (u ∷ us) vs (inr i) = go (in_either x us vs i)
    where
      go : In x us ⊎ In x vs → In x (u ∷ us) ⊎ In x vs
      go (inl j) = inl (inr j)
      go (inr j) = inr j

  -- another member than the one in the middle
  pub in_others : (x : A) (us : List A) (s : A) (vs : List A) → (s ≡ x → ⊥) → In x (us ++ s ∷ vs) → In x (us ++ vs)
  in_others x [] s vs d (inl e) = absurd (d e)
  in_others x [] s vs d (inr i) = i
  in_others x (u ∷ us) s vs d (inl e) = inl e
  in_others x (u ∷ us) s vs d (inr i) = inr (in_others x us s vs d i)

  pub in_put : (x : A) (us : List A) (s : A) (vs : List A) → In x (us ++ vs) → In x (us ++ s ∷ vs)
  in_put x [] s vs i = inr i
  in_put x (u ∷ us) s vs (inl e) = inl e
  in_put x (u ∷ us) s vs (inr i) = inr (in_put x us s vs i)

  pub in_length : (x : A) (xs : List A) → In x xs → 1 ≤ length xs
  in_length x [] i = elim i [ ]
  in_length x (y ∷ ys) i = omega arith

  pub sum_append : (g : A → ℕ) (us vs : List A) → sum g (us ++ vs) ≡ sum g us + sum g vs
  sum_append g [] vs = omega arith
  sum_append g (x ∷ us) vs = let ih = sum_append g us vs in omega arith

  pub sum_same : (g h : A → ℕ) (xs : List A) → All (λ x. g x ≡ h x) xs → sum g xs ≡ sum h xs
  sum_same g h [] e = refl
  sum_same g h (x ∷ xs) e = let p = e.0 in let ih = sum_same g h xs e.1 in omega arith

  pub sum_none : (g : A → ℕ) (xs : List A) → All (λ x. g x ≡ 0) xs → sum g xs ≡ 0
  sum_none g [] e = refl
  sum_none g (x ∷ xs) e = let p = e.0 in let ih = sum_none g xs e.1 in omega arith

  pub in_sum : (g : A → ℕ) (xs : List A) (x : A) → In x xs → g x ≤ sum g xs
  in_sum g [] x x3 = elim x3 [ ]
  in_sum g (y ∷ ys) x (inl e) = let p = ap g e in omega arith
  in_sum g (y ∷ ys) x (inr i) = let p = in_sum g ys x i in omega arith

  pub length_sum : (xs : List A) → length xs ≡ sum (λ x. 1) xs
  length_sum [] = refl
  length_sum (x ∷ xs) = let ih = length_sum xs in omega arith

pub final_in : (P : ℕ → Type 0) (a : ℕ) (us : List ℕ) → P a → All P us → P (final a us)
final_in P a [] p h = p
final_in P a (x ∷ us) p h = final_in P x us h.0 h.1

pub final_append : (a : ℕ) (us vs : List ℕ) → final a (us ++ vs) ≡ final (final a us) vs
final_append a [] vs = refl
final_append a (x ∷ us) vs = final_append x us vs

pub length_from : (s n : ℕ) → length (from s n) ≡ n
length_from s zero = refl
length_from s (suc n) = ap suc (length_from (s + 1) n)

pub from_in : (s n k : ℕ) → s ≤ k → k < s + n → In k (from s n)
from_in s zero k l h = absurd (omega arith)
from_in s (suc n) k l h = by_eq s k (λ e. inl e) (λ d. inr (from_in (s + 1) n k (omega arith) (omega arith)))

pub all_from : (P : ℕ → Type 0) (s n : ℕ) → ((k : ℕ) → s ≤ k → k < s + n → P k) → All P (from s n)
all_from P s zero f = tt
all_from P s (suc n) f = (f s (omega arith) (omega arith), all_from P (s + 1) n (λ k l h. f k (omega arith) (omega arith)))

pub final_from : (a s n : ℕ) → final a (from s (suc n)) ≡ s + n
final_from a s zero = omega arith
final_from a s (suc n) = let r = final_from s (s + 1) n in omega arith

-- being a member, by counting
pub in_times : (s : ℕ) (xs : List ℕ) → In s xs → 1 ≤ times s xs
in_times s [] x' = elim x' [ ]
in_times s (x ∷ xs) (inl e) = omega (arith, one_same x s e)
in_times s (x ∷ xs) (inr i) = let r = in_times s xs i in omega arith

pub times_in : (s : ℕ) (xs : List ℕ) → 1 ≤ times s xs → In s xs
times_in s [] h = absurd (omega arith)
times_in s (x ∷ xs) h = if_eq (λ n. 1 ≤ n + times s xs → In s (x ∷ xs)) x s (λ e l. inl e) (λ d l. inr (times_in s xs (omega arith))) h

pub without_times : (s : ℕ) (xs : List ℕ) → Without s xs → times s xs ≡ 0
without_times s [] h = refl
without_times s (x ∷ xs) h = let r = without_times s xs h.1 in omega (arith, one_other x s h.0)

pub times_without : (s : ℕ) (xs : List ℕ) → times s xs ≡ 0 → Without s xs
times_without s [] h = tt
times_without s (x ∷ xs) h = ((λ e. absurd (omega (arith, one_same x s e))), times_without s xs (omega arith))

pub in_without : (s : ℕ) (xs : List ℕ) → In s xs → Without s xs → ⊥
in_without s xs i w = omega (arith, in_times s xs i, without_times s xs w)

-- two lists without a common member, put together and taken apart
pub distinct_append : (us vs : List ℕ) → Distinct us → Distinct vs → All (λ y. Without y us) vs → Distinct (us ++ vs)
distinct_append [] vs d e a = e
distinct_append (x ∷ us) vs d e a = (
  all_append (λ y. y ≢ x) us vs d.0 (all_map (λ y. Without y (x ∷ us)) (λ y. y ≢ x) (λ y w q. w.0 (sym q)) vs a),
  distinct_append us vs d.1 e (all_map (λ y. Without y (x ∷ us)) (λ y. Without y us) (λ y w. w.1) vs a),
)

pub distinct_right : (us vs : List ℕ) → Distinct (us ++ vs) → Distinct vs
distinct_right [] vs d = d
distinct_right (x ∷ us) vs d = distinct_right us vs d.1

pub distinct_apart : (us vs : List ℕ) → Distinct (us ++ vs) → All (λ y. Without y us) vs
distinct_apart [] vs d = all_any (λ y. Without y []) (λ y. tt) vs
distinct_apart (x ∷ us) vs d =
    all_both (λ y. y ≢ x) (λ y. Without y us) (λ y. Without y (x ∷ us)) (λ y q w. ((λ e. q (sym e)), w)) vs
    (all_right (λ y. y ≢ x) us vs d.0) (distinct_apart us vs d.1)
