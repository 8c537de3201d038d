-- Laws of chains. What carries them: one head has one chain, so no member can be met again further on, since the chain from it would be shorter than itself.
use Rattle.std.proofs.Common.{◌≡◌, ℕ, ◌<◌, ◌≤◌, ◌≢◌, ◌⊎◌, List, [], ◌∷◌, ◌++◌, length, set, sym, refl, ap, ◌∙◌, subst, inl, inr, append_assoc, append-nil, arith, length-append, get_or-set_other, get_or-set_same}
use Rattle.numbers.specs.Marks.{NONE}
use Rattle.lists.specs.Lists.{All, Without, Distinct, final}
use Rattle.lists.proofs.Members.{all_map, final_in}
use Rattle.lists.proofs.Pigeonhole.{distinct_few}
use Rattle.links.specs.Chain.{Chain, Walked, cells}

-- another function that agrees on the members has the same chain
pub chain_same : (size : ℕ) (n n' : ℕ → ℕ) (f : ℕ) (xs : List ℕ) → All (λ x. n' x ≡ n x) xs → Chain size n f xs → Chain size n' f xs
chain_same size n n' f [] a p = p
chain_same size n n' f (x ∷ xs) a p =
    (p.0, p.1, subst (λ (k : ℕ). Chain size n' k xs) (sym a.0) (chain_same size n n' (n x) xs a.1 p.2))

-- a store into a table keeps the cells elsewhere
pub cells_set : (t : List ℕ) (s v : ℕ) (xs : List ℕ) → Without s xs → All (λ x. cells (set t s v) x ≡ cells t x) xs
cells_set t s v xs w = all_map (λ x. x ≢ s) (λ x. cells (set t s v) x ≡ cells t x) (λ x d. get_or-set_other t s x v 0 d) xs w

-- a store elsewhere keeps a chain
pub chain_set : (size : ℕ) (t : List ℕ) (s v f : ℕ) (xs : List ℕ) → Without s xs → Chain size (cells t) f xs → Chain size (cells (set t s v)) f xs
chain_set size t s v f xs w p = chain_same size (cells t) (cells (set t s v)) f xs (cells_set t s v xs w) p

-- a store at the last member makes the chain go on to s, whose link is NONE
pub chain_on : (t : List ℕ) (s f x : ℕ) (xs : List ℕ) → s < length t → cells t s ≡ NONE → Distinct (x ∷ xs) → Without s (x ∷ xs)
    → Chain (length t) (cells t) f (x ∷ xs) → Chain (length t) (cells (set t (final x xs) s)) f (x ∷ (xs ++ s ∷ []))
chain_on t s f x [] l e d w p =
    (p.0, p.1, (get_or-set_same t x s 0 p.1, l, get_or-set_other t x s s 0 (λ q. w.0 (sym q)) ∙ e))
chain_on t s f x (y ∷ ys) l e d w p =
    let apart : x ≢ final y ys = λ q. final_in (λ k. k ≢ x) y ys d.0.0 d.0.1 (sym q) in (
      p.0,
      p.1,
      subst (λ (k : ℕ). Chain (length t) (cells (set t (final y ys) s)) k (y ∷ (ys ++ s ∷ []))) (sym (get_or-set_other t (final y ys) x s 0 apart))
          (chain_on t s (cells t x) y ys l e d.1 w.1 p.2),
    )

module _ (size : ℕ) (n : ℕ → ℕ) where
  pub chain_below : (f : ℕ) (xs : List ℕ) → Chain size n f xs → All (λ x. x < size) xs
  chain_below f [] p = tt
  chain_below f (x ∷ xs) p = (p.1, chain_below (n x) xs p.2)

  -- a chain begins at NONE or at a place
  pub chain_head : (f : ℕ) (xs : List ℕ) → Chain size n f xs → (f ≡ NONE) ⊎ (f < size)
  chain_head f [] p = inl p
  chain_head f (x ∷ xs) p = inr (omega arith)

  -- so each member's link is NONE or a place
  pub chain_cells : (f : ℕ) (xs : List ℕ) → Chain size n f xs → All (λ x. (n x ≡ NONE) ⊎ (n x < size)) xs
  chain_cells f [] p = tt
  chain_cells f (x ∷ xs) p = (chain_head (n x) xs p.2, chain_cells (n x) xs p.2)

  -- a walk on its way from f, which passed `passed` and stands at `at`: every chain from there on gives one from f, and every chain from f goes on there
  pub record Walking (f : ℕ) (passed : List ℕ) (at : ℕ) : Type 0 where
    pub back : (ys : List ℕ) → Chain size n at ys → Chain size n f (passed ++ ys)
    pub forth : (xs : List ℕ) → Chain size n f xs → (ys : List ℕ) × Chain size n at ys × (xs ≡ passed ++ ys)

  pub walk_none : (f : ℕ) → Walking f [] f
  walk_none f = record { back = λ ys p. p; forth = λ xs p. (xs, p, refl) }

module _ (size : ℕ) (n : ℕ → ℕ) (limit : size ≤ NONE) where
  -- and no other mark above NONE
  pub chain_unmarked : (f : ℕ) (xs : List ℕ) → Chain size n f xs → All (λ x. n x ≤ NONE) xs
  chain_unmarked f xs p =
      all_map (λ x. (n x ≡ NONE) ⊎ (n x < size)) (λ x. n x ≤ NONE) (λ x. go x) xs (chain_cells size n f xs p)
    where
      go : (x : ℕ) → (n x ≡ NONE) ⊎ (n x < size) → n x ≤ NONE
      go x (inl e) = omega arith
      go x (inr l) = omega arith

  pub chain_one : (f : ℕ) (xs ys : List ℕ) → Chain size n f xs → Chain size n f ys → xs ≡ ys
  chain_one f [] [] p q = refl
  chain_one f [] (y ∷ ys) p q = absurd (omega arith)
  chain_one f (x ∷ xs) [] p q = absurd (omega arith)
  chain_one f (x ∷ xs) (y ∷ ys) p q =
      let e : x ≡ y = omega arith in
      let r : xs ≡ ys = chain_one (n x) xs ys p.2 (subst (λ (k : ℕ). Chain size n (n k) ys) (sym e) q.2) in
      cc

  -- s is not in a chain that is shorter than each chain from s
  shorter : (s f : ℕ) (xs : List ℕ) → Chain size n f xs → ((ys : List ℕ) → Chain size n s ys → length xs < length ys) → Without s xs
  shorter s f [] p h = tt
  shorter s f (x ∷ xs) p h = (
    λ e. omega (arith, h (x ∷ xs) (sym e, p.1, p.2)),
    shorter s (n x) xs p.2 (λ ys q. omega (arith, h ys q)),
  )

  pub chain_distinct : (f : ℕ) (xs : List ℕ) → Chain size n f xs → Distinct xs
  chain_distinct f [] p = tt
  chain_distinct f (x ∷ xs) p = (
    shorter x (n x) xs p.2 (λ ys q. omega (arith, ap length (chain_one x ys (x ∷ xs) q (refl, p.1, p.2)))),
    chain_distinct (n x) xs p.2,
  )

  pub chain_length : (f : ℕ) (xs : List ℕ) → Chain size n f xs → length xs ≤ size
  chain_length f xs p = distinct_few size xs (chain_distinct f xs p) (chain_below size n f xs p)

  pub walk_more : (f : ℕ) (us : List ℕ) (at : ℕ) → at < size → Walking size n f us at → Walking size n f (us ++ at ∷ []) (n at)
  walk_more f us at b w = record {
    back = λ ys p. rw append_assoc (w.back (at ∷ ys) (refl, b, p));
    forth = λ xs p. let r = w.forth xs p in go xs r.0 r.1 r.2;
  }
    where
      go : (xs ys : List ℕ) → Chain size n at ys → xs ≡ us ++ ys → (zs : List ℕ) × Chain size n (n at) zs × (xs ≡ (us ++ at ∷ []) ++ zs)
      go xs [] q e = absurd (omega arith)
      go xs (y ∷ ys) q e = (
        ys,
        subst (λ (k : ℕ). Chain size n (n k) ys) (sym q.0) q.2,
        rw append_assoc (e ∙ ap (λ (k : ℕ). us ++ k ∷ ys) (sym q.0)),
      )

  -- off the table, or after as many steps as it has places, a walk has seen the whole chain, if there is one
  pub walk_done : (f : ℕ) (us : List ℕ) (at : ℕ) → (at < size → size ≤ length us) → Walking size n f us at → Walked size n f us at
  walk_done f us at out w = record {
    ends = λ e. rw append-nil at (w.back [] e);
    whole = λ xs p. let r = w.forth xs p in go xs p r.0 r.1 r.2;
  }
    where
      go : (xs : List ℕ) → Chain size n f xs → (ys : List ℕ) → Chain size n at ys → xs ≡ us ++ ys → (at ≡ NONE) × (xs ≡ us)
      go xs p [] q e = (q, e ∙ append-nil us)
      go xs p (y ∷ ys) q e =
          absurd (omega (arith, out (omega arith), chain_length f xs p, simp length-append at (ap length e)))
