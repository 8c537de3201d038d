-- Lists of slots through the words of a table: a list begins at some word h, and the word after slot x is `size + x`. What carries it: the words
-- of a list are distinct, so a store at one of them, and at the word of a slot that is not listed, changes the list from there on only.
use mathlib.Core.Path.{◌≡◌, refl, sym, ◌∙◌, subst}
use mathlib.Core.Logic.{◌≢◌}
use mathlib.Core.List.{List, [], ◌∷◌, ◌++◌}
use Prim.Native.Nat.{ℕ, ◌+◌, ◌<◌}
use native.Mathlib.Omega.{arith}
use Rattle.lists.specs.Lists.{All, Without, Distinct, final}
use Rattle.lists.proofs.Members.{all_map, all_left, final_in}
use Rattle.links.specs.Chain.{Chain}
use Rattle.key_index.specs.Places.{word_after}

module _ (size : ℕ) where
  word_final : (x : ℕ) (us : List ℕ) → word_after size (size + x) us ≡ size + final x us
  word_final x [] = refl
  word_final x (y ∷ us) = word_final y us

  pub word_more : (h : ℕ) (us : List ℕ) (y : ℕ) → word_after size h (us ++ y ∷ []) ≡ size + y
  word_more h [] y = refl
  word_more h (x ∷ us) y = word_more (size + x) us y

  pub word_below : (h : ℕ) (us : List ℕ) → h < size → All (λ x. x < size) us → word_after size h us < size + size
  word_below h [] l b = omega arith
  word_below h (x ∷ us) l b = omega (arith, word_final x us, final_in (λ y. y < size) x us b.0 b.1)

  -- the word of another slot is none of the list's
  pub word_other : (h : ℕ) (us : List ℕ) (s : ℕ) → size + s ≢ h → Without s us → size + s ≢ word_after size h us
  word_other h [] s d w = d
  word_other h (x ∷ us) s d w = word_other (size + x) us s (λ e. w.0 (omega arith)) w.1

  -- and neither is the first word of another list
  pub word_class : (h : ℕ) (us : List ℕ) (d : ℕ) → d < size → d ≢ h → d ≢ word_after size h us
  word_class h [] d l n = n
  word_class h (x ∷ us) d l n = λ e. omega (arith, word_final x us)

  -- the list from a later word on
  pub word_rest : (w : ℕ → ℕ) (h : ℕ) (us vs : List ℕ) → Chain size (λ x. w (size + x)) (w h) (us ++ vs)
      → Chain size (λ x. w (size + x)) (w (word_after size h us)) vs
  word_rest w h [] vs p = p
  word_rest w h (x ∷ us) vs p = word_rest w (size + x) us vs p.2

  -- another list from the word `at` on, after stores at that word and at the word of s
  module _ (w w' : ℕ → ℕ) (s at : ℕ) (same : (k : ℕ) → k ≢ at → k ≢ size + s → w' k ≡ w k) where
    pub splice : (h : ℕ) (us ys zs : List ℕ) → word_after size h us ≡ at → size + s ≢ h → Without s us → All (λ y. size + y ≢ h) (us ++ ys) → Distinct (us ++ ys)
        → Chain size (λ x. w (size + x)) (w h) (us ++ ys) → Chain size (λ x. w' (size + x)) (w' at) zs → Chain size (λ x. w' (size + x)) (w' h) (us ++ zs)
    splice h [] ys zs e n fresh a d p q = subst (λ (k : ℕ). Chain size (λ x. w' (size + x)) (w' k) zs) (sym e) q
    splice h (x ∷ us) ys zs e n fresh a d p q =
        let apart : size + final x us ≢ h = final_in (λ y. size + y ≢ h) x us a.0 (all_left (λ y. size + y ≢ h) us ys a.1) in (
          same h (λ i. apart (sym (word_final x us) ∙ e ∙ sym i)) (λ i. n (sym i)) ∙ p.0,
          p.1,
          splice (size + x) us ys zs e (λ i. fresh.0 (omega arith)) fresh.1
              (all_map (λ y. y ≢ x) (λ y. size + y ≢ size + x) (λ y m i. m (omega arith)) (us ++ ys) d.0) d.1 p.2 q,
        )
