-- A walk along links from NONE, for checks. What carries it: the slots passed so far are the beginning of every ring that there may be,
-- and whatever goes on from here makes a whole with them. So a walk that ends has found the ring, and one that stumbles shows that there is none.
use Rattle.std.proofs.Common.{◌≡◌, ℕ, ◌≢◌, List, [], ◌∷◌, ◌++◌, sym, refl, ap, ◌∙◌, subst, append_assoc, append-nil}
use Rattle.numbers.specs.Marks.{NONE}
use Rattle.lists.specs.Lists.{Without, final}
use Rattle.lists.proofs.Members.{all_right, final_append}
use Rattle.links.specs.Ring.{Links}
use Rattle.links.proofs.Rings.{past}

-- the walk has passed ys and stands at the last of them; x is next
pub record Walk (n p : ℕ → ℕ) (ys : List ℕ) (at x : ℕ) : Type 0 where
  pub next_is : n at ≡ x
  pub last : at ≡ final NONE ys
  pub goes : (xs : List ℕ) (z : ℕ) → Links n p at xs z → Links n p NONE (ys ++ xs) z
  pub begins : (zs : List ℕ) → Without NONE zs → Links n p NONE zs NONE → (rest : List ℕ) × (zs ≡ ys ++ rest)

module _ (n p : ℕ → ℕ) where
  pub walk_start : Walk n p [] NONE (n NONE)
  walk_start = record { next_is = refl; last = refl; goes = λ xs z l. l; begins = λ zs w l. (zs, refl) }

  module _ (ys : List ℕ) (at x : ℕ) (w : Walk n p ys at x) where
    -- the rest of a ring
    rest_links : (rest : List ℕ) → Links n p NONE (ys ++ rest) NONE → Links n p at rest NONE
    rest_links rest l = subst (λ (k : ℕ). Links n p k rest NONE) (sym w.last) (past n p NONE ys rest NONE l)

    -- in every ring x is the next, and leads back to where the walk stands
    pub walk_next : x ≢ NONE → (zs : List ℕ) → Without NONE zs → Links n p NONE zs NONE → (rest : List ℕ) × (zs ≡ ys ++ x ∷ rest) × (p x ≡ at)
    walk_next ne zs h l = let b = w.begins zs h l in go b.0 b.1 (rest_links b.0 (rw b.1 at l))
      where
        go : (rest : List ℕ) → zs ≡ ys ++ rest → Links n p at rest NONE → (more : List ℕ) × (zs ≡ ys ++ x ∷ more) × (p x ≡ at)
        go [] e m = absurd (ne (sym w.next_is ∙ m.0))
        go (y ∷ rest) e m =
            let q : y ≡ x = sym m.0 ∙ w.next_is in (rest, e ∙ ap (λ (k : ℕ). ys ++ k ∷ rest) q, ap p (sym q) ∙ m.1)

    pub walk_on : x ≢ NONE → p x ≡ at → Walk n p (ys ++ x ∷ []) x (n x)
    walk_on ne e = record {
      next_is = refl;
      last = sym (final_append NONE ys (x ∷ []));
      goes = λ xs z l. rw append_assoc (w.goes (x ∷ xs) z (w.next_is, e, l));
      begins = λ zs h l. let r = walk_next ne zs h l in (r.0, r.1 ∙ sym (append_assoc ys (x ∷ []) r.0));
    }

    -- the walk has ended
    pub walk_end : x ≡ NONE → p NONE ≡ at → Links n p NONE ys NONE
    walk_end e q = rw append-nil at (w.goes [] NONE (w.next_is ∙ e, q))

    pub walk_whole : x ≡ NONE → (zs : List ℕ) → Without NONE zs → Links n p NONE zs NONE → (zs ≡ ys) × (p NONE ≡ at)
    walk_whole e zs h l = let b = w.begins zs h l in go b.0 b.1 (rest_links b.0 (rw b.1 at l))
      where
        go : (rest : List ℕ) → zs ≡ ys ++ rest → Links n p at rest NONE → (zs ≡ ys) × (p NONE ≡ at)
        go [] q m = (q ∙ append-nil ys, m.1)
        go (y ∷ rest) q m =
            absurd ((all_right (λ k. k ≢ NONE) ys (y ∷ rest) (subst (Without NONE) q h)).0 (sym m.0 ∙ w.next_is ∙ e))
