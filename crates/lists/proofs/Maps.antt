-- Laws of `map`: what holds of all images, how many they are, what they sum up to, and what maps to a list in two parts. Each is a plain
-- induction on the list.
use mathlib.Core.Path.{◌≡◌, refl, ap}
use mathlib.Core.List.{List, [], ◌∷◌, ◌++◌, map}
use Prim.Native.Nat.{ℕ, suc}
use native.Mathlib.Omega.{arith}
use lib.ListN.{length}
use Rattle.lists.specs.Lists.{All, sum}

module _ {A B : Type 0} (f : A → B) where
  pub all_images : (P : B → Type 0) (xs : List A) → All (λ x. P (f x)) xs → All P (map f xs)
  all_images P [] h = tt
  all_images P (x ∷ xs) h = (h.0, all_images P xs h.1)

  pub images_all : (P : B → Type 0) (xs : List A) → All P (map f xs) → All (λ x. P (f x)) xs
  images_all P [] h = tt
  images_all P (x ∷ xs) h = (h.0, images_all P xs h.1)

  pub length_images : (xs : List A) → length (map f xs) ≡ length xs
  length_images [] = refl
  length_images (x ∷ xs) = ap suc (length_images xs)

  pub sum_images : (g : B → ℕ) (xs : List A) → sum g (map f xs) ≡ sum (λ x. g (f x)) xs
  sum_images g [] = refl
  sum_images g (x ∷ xs) = let ih = sum_images g xs in omega arith

  -- a list that maps to a first element and others
  pub map_cons : (xs : List A) (v : B) (vs : List B) → map f xs ≡ v ∷ vs → (a : A) × (ps : List A) × (xs ≡ a ∷ ps) × (f a ≡ v) × (map f ps ≡ vs)
  map_cons [] v vs e = let z : ◌≡◌ {A = ℕ} 0 1 = cc in absurd (omega arith)
  map_cons (x ∷ xs) v vs e = (x, xs, refl, cc, cc)

  -- a list that maps to a list in two parts
  pub map_parts : (xs : List A) (us vs : List B) → map f xs ≡ us ++ vs → (ps : List A) × (qs : List A) × (xs ≡ ps ++ qs) × (map f ps ≡ us) × (map f qs ≡ vs)
  map_parts xs [] vs e = ([], xs, refl, refl, e)
  map_parts [] (u ∷ us) vs e = let z : ◌≡◌ {A = ℕ} 0 1 = cc in absurd (omega arith)
  map_parts (x ∷ xs) (u ∷ us) vs e =
      let q = map_parts xs us vs (cc) in
      let h : f x ≡ u = cc in
      (x ∷ q.0, q.1, ap (λ (l : List A). x ∷ l) q.2, λ i. h i ∷ q.3 i, q.4)
