-- Laws of lists in strictly ascending order of a key. Each is a plain induction on the list.
use mathlib.Core.Path.{◌≡◌, sym, ap, ◌∙◌}
use mathlib.Core.Logic.{inl, inr}
use mathlib.Core.List.{List, [], ◌∷◌, ◌++◌}
use Prim.Native.Nat.{ℕ, ◌≤◌, ◌<◌}
use native.Mathlib.Omega.{arith}
use Rattle.lists.specs.Lists.{All, In, final}
use Rattle.lists.proofs.Members.{all_map, all_in, all_mid, all_put}
use Rattle.key_index.specs.Index.{Ascending}

module _ (key : ℕ → ℕ) where
  pub asc_right : (us vs : List ℕ) → Ascending key (us ++ vs) → Ascending key vs
  asc_right [] vs h = h
  asc_right (x ∷ us) vs h = asc_right us vs h.1

  -- those before a member have smaller keys
  pub asc_mid : (us : List ℕ) (y : ℕ) (vs : List ℕ) → Ascending key (us ++ y ∷ vs) → All (λ x. key x < key y) us
  asc_mid [] y vs h = tt
  asc_mid (x ∷ us) y vs h = ((all_mid (λ r. key x < key r) us y vs h.0).0, asc_mid us y vs h.1)

  -- a member is put where it belongs, or dropped
  pub asc_put : (us : List ℕ) (s : ℕ) (vs : List ℕ) → All (λ x. key x < key s) us → All (λ y. key s < key y) vs → Ascending key (us ++ vs) → Ascending key (us ++ s ∷ vs)
  asc_put [] s vs p q h = (q, h)
  asc_put (x ∷ us) s vs p q h = (all_put (λ r. key x < key r) us s vs p.0 h.0, asc_put us s vs p.1 q h.1)

  pub asc_drop : (us : List ℕ) (s : ℕ) (vs : List ℕ) → Ascending key (us ++ s ∷ vs) → Ascending key (us ++ vs)
  asc_drop [] s vs h = h.1
  asc_drop (x ∷ us) s vs h = ((all_mid (λ r. key x < key r) us s vs h.0).1, asc_drop us s vs h.1)

  -- what is above the last key is above all
  pub asc_final : (x : ℕ) (us : List ℕ) (b : ℕ) → Ascending key (x ∷ us) → key (final x us) < b → All (λ y. key y < b) (x ∷ us)
  asc_final x [] b h l = (l, tt)
  asc_final x (y ∷ us) b h l =
      let r = asc_final y us b h.1 l in
      (omega (arith, h.0.0, r.0), r)

  -- what is at most the first key is at most all
  pub asc_least : (b y : ℕ) (ys : List ℕ) → b ≤ key y → Ascending key (y ∷ ys) → All (λ s. b ≤ key s) (y ∷ ys)
  asc_least b y ys l h = (l, all_map (λ r. key y < key r) (λ r. b ≤ key r) (λ r m. omega arith) ys h.0)

  -- one key has one member
  pub asc_one : (ss : List ℕ) (x y : ℕ) → Ascending key ss → In x ss → In y ss → key x ≡ key y → x ≡ y
  asc_one [] x y h x6 _ e = elim x6 [ ]
  asc_one (z ∷ ss) x y h (inl p) (inl q) e = sym p ∙ q
  asc_one (z ∷ ss) x y h (inl p) (inr j) e = absurd (omega (arith, ap key p, all_in (λ r. key z < key r) ss y h.0 j))
  asc_one (z ∷ ss) x y h (inr i) (inl q) e = absurd (omega (arith, ap key q, all_in (λ r. key z < key r) ss x h.0 i))
  asc_one (z ∷ ss) x y h (inr i) (inr j) e = asc_one ss x y h.1 i j e

  -- a member with the least key comes first
  pub asc_first : (ss : List ℕ) (x : ℕ) → Ascending key ss → In x ss → All (λ s. key x ≤ key s) ss → (ys : List ℕ) × (ss ≡ x ∷ ys)
  asc_first [] x h x5 a = elim x5 [ ]
  asc_first (z ∷ ss) x h (inl p) a = (ss, ap (λ (k : ℕ). k ∷ ss) p)
  asc_first (z ∷ ss) x h (inr i) a = absurd (omega (arith, a.0, all_in (λ r. key z < key r) ss x h.0 i))
