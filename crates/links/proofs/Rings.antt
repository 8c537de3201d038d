-- The laws of rings. What carries them: whatever points at s cannot lie in a ring without s, so a changed link is met only where it is meant.
use Rattle.std.proofs.Common.{◌≡◌, ℕ, ◌≢◌, List, [], ◌∷◌, ◌++◌, sym, refl, ap, ◌∙◌, subst}
use Rattle.lists.specs.Lists.{All, Without, Distinct, final}
use Rattle.lists.proofs.Members.{all_mid, all_left, final_in}
use Rattle.links.specs.Ring.{Links, upd}
use Rattle.links.proofs.Functions.{upd_same, upd_other}

-- two functions each, whose links agree where they matter
pub links_same : (n p n' p' : ℕ → ℕ) (a : ℕ) (xs : List ℕ) (z : ℕ) → n' a ≡ n a → All (λ k. (n' k ≡ n k) × (p' k ≡ p k)) xs → p' z ≡ p z
    → Links n p a xs z → Links n' p' a xs z
links_same n p n' p' a [] z ha hs hz l = (ha ∙ l.0, hz ∙ l.1)
links_same n p n' p' a (x ∷ xs) z ha hs hz l = (ha ∙ l.0, hs.0.1 ∙ l.1, links_same n p n' p' x xs z hs.0.0 hs.1 hz l.2)

module _ (n p n' p' : ℕ → ℕ) (s b : ℕ) (step : (i j : ℕ) → i ≢ s → i ≢ b → j ≢ s → n i ≡ j → p j ≡ i → (n' i ≡ j) × (p' j ≡ i)) where
  -- links that stay as they are at all but s and b
  frame : (a : ℕ) (xs : List ℕ) (z : ℕ) → a ≢ s → a ≢ b → Without s xs → Without b xs → z ≢ s → Links n p a xs z → Links n' p' a xs z
  frame a [] z hs hb ss bs zs l = step a z hs hb zs l.0 l.1
  frame a (x ∷ xs) z hs hb ss bs zs l =
      let r = step a x hs hb ss.0 l.0 l.1 in (r.0, r.1, frame x xs z ss.0 bs.0 ss.1 bs.1 zs l.2)

module _ (n p : ℕ → ℕ) where
  -- what follows us
  pub past : (a : ℕ) (us vs : List ℕ) (z : ℕ) → Links n p a (us ++ vs) z → Links n p (final a us) vs z
  past a [] vs z l = l
  past a (x ∷ us) vs z l = past x us vs z l.2

  -- what comes next came from here
  pub there_and_back : (a : ℕ) (xs : List ℕ) (z : ℕ) → Links n p a xs z → p (n a) ≡ a
  there_and_back a [] z l = ap p l.0 ∙ l.1
  there_and_back a (x ∷ xs) z l = ap p l.0 ∙ l.1

  -- the end's back link says the last member
  pub last_is : (a : ℕ) (xs : List ℕ) (z : ℕ) → Links n p a xs z → p z ≡ final a xs
  last_is a [] z l = l.1
  last_is a (x ∷ xs) z l = last_is x xs z l.2

  -- one start has one list
  pub links_one : (a : ℕ) (xs ys : List ℕ) (z : ℕ) → Without z xs → Without z ys → Links n p a xs z → Links n p a ys z → xs ≡ ys
  links_one a [] [] z wx wy l m = refl
  links_one a [] (y ∷ ys) z wx wy l m = absurd (wy.0 (sym m.0 ∙ l.0))
  links_one a (x ∷ xs) [] z wx wy l m = absurd (wx.0 (sym l.0 ∙ m.0))
  links_one a (x ∷ xs) (y ∷ ys) z wx wy l m =
      let e : y ≡ x = sym m.0 ∙ l.0 in
      let r = links_one x xs ys z wx.1 wy.1 l.2 (subst (λ (k : ℕ). Links n p k ys z) e m.2) in
      λ i. sym e i ∷ r i

  -- x comes after a, so it does not come after what is not a
  apart : (x a b : ℕ) (xs : List ℕ) (z : ℕ) → p x ≡ a → b ≢ a → Without a xs → Links n p b xs z → Without x xs
  apart x a b [] z e h hs l = tt
  apart x a b (y ∷ xs) z e h hs l = ((λ q. h (sym l.1 ∙ ap p q ∙ e)), apart x a y xs z e hs.0 hs.1 l.2)

  -- no slot is twice in a ring that does not come back to its start
  pub once : (a : ℕ) (us : List ℕ) (s : ℕ) (vs : List ℕ) (z : ℕ) → Without a (us ++ s ∷ vs) → Links n p a (us ++ s ∷ vs) z → Without s (us ++ vs)
  once a [] s vs z h l = apart s a s vs z l.1 h.0 h.1 l.2
  once a (x ∷ us) s vs z h l =
      let hx = apart x a x (us ++ s ∷ vs) z l.1 h.0 h.1 l.2 in
      ((λ q. (all_mid (λ i. i ≢ x) us s vs hx).0 (sym q)), once x us s vs z hx l.2)

  pub distinct : (a : ℕ) (xs : List ℕ) (z : ℕ) → Without a xs → Links n p a xs z → Distinct xs
  distinct a [] z h l = tt
  distinct a (x ∷ xs) z h l = let o = once a [] x xs z h l in (o, distinct x xs z o l.2)

  -- the neighbours of s lead to s, and are what the members and the ends are
  pub around : (Q : ℕ → Type 0) (a : ℕ) (us : List ℕ) (s : ℕ) (vs : List ℕ) (z : ℕ) → Q a → All Q (us ++ s ∷ vs) → Q z → Links n p a (us ++ s ∷ vs) z
      → (n (p s) ≡ s) × (p (n s) ≡ s) × Q (p s) × Q (n s)
  around Q a [] s [] z qa h qz l = (ap n l.1 ∙ l.0, ap p l.2.0 ∙ l.2.1, rw l.1 qa, rw l.2.0 qz)
  around Q a [] s (b ∷ vs) z qa h qz l = (ap n l.1 ∙ l.0, ap p l.2.0 ∙ l.2.1, rw l.1 qa, rw l.2.0 h.1.0)
  around Q a (x ∷ us) s vs z qa h qz l = around Q x us s vs z h.0 h.1 qz l.2

  -- so is what comes after the start
  pub first : (Q : ℕ → Type 0) (a : ℕ) (xs : List ℕ) (z : ℕ) → All Q xs → Q z → Links n p a xs z → Q (n a)
  first Q a [] z h qz l = rw l.0 qz
  first Q a (x ∷ xs) z h qz l = rw l.0 h.0

  -- ---- out

  module _ (s : ℕ) (back : n (p s) ≡ s) (forth : p (n s) ≡ s) where
    beside : (i j : ℕ) → i ≢ s → i ≢ s → j ≢ s → n i ≡ j → p j ≡ i → (upd n (p s) (n s) i ≡ j) × (upd p (n s) (p s) j ≡ i)
    beside i j hi _ hj e f = (
      upd_other n (p s) (n s) i (λ q. hj (sym e ∙ ap n q ∙ back)) ∙ e,
      upd_other p (n s) (p s) j (λ q. hi (sym f ∙ ap p q ∙ forth)) ∙ f,
    )

    across : (i j : ℕ) → p s ≡ i → n s ≡ j → (upd n (p s) (n s) i ≡ j) × (upd p (n s) (p s) j ≡ i)
    across i j e f = (
      ap (upd n (p s) (n s)) (sym e) ∙ upd_same n (p s) (n s) ∙ f,
      ap (upd p (n s) (p s)) (sym f) ∙ upd_same p (n s) (p s) ∙ e,
    )

    take_out : (a : ℕ) (us vs : List ℕ) (z : ℕ) → a ≢ s → Without s (us ++ vs) → z ≢ s → Links n p a (us ++ s ∷ vs) z
        → Links (upd n (p s) (n s)) (upd p (n s) (p s)) a (us ++ vs) z
    take_out a [] [] z ha h hz l = across a z l.1 l.2.0
    take_out a [] (b ∷ vs) z ha h hz l =
        let r = across a b l.1 l.2.0 in (r.0, r.1, frame n p _ _ s s beside b vs z h.0 h.0 h.1 h.1 hz l.2.2)
    take_out a (x ∷ us) vs z ha h hz l =
        let r = beside a x ha ha h.0 l.0 l.1 in (r.0, r.1, take_out x us vs z h.0 h.1 hz l.2)

  -- s is taken out: its neighbours are linked
  pub remove : (a : ℕ) (us : List ℕ) (s : ℕ) (vs : List ℕ) → a ≢ s → Without a (us ++ s ∷ vs) → Links n p a (us ++ s ∷ vs) a
      → Links (upd n (p s) (n s)) (upd p (n s) (p s)) a (us ++ vs) a
  remove a us s vs ne h l =
      let m = around (λ k. Unit {0}) a us s vs a tt (all_none (us ++ s ∷ vs)) tt l in
      take_out s m.0 m.1 a us vs a ne (once a us s vs a h l) ne l
    where
      all_none : (xs : List ℕ) → All (λ k. Unit {0}) xs
      all_none [] = tt
      all_none (x ∷ xs) = (tt, all_none xs)

  -- ---- in

  module _ (s a : ℕ) (ha : a ≢ s) where
    onto : p (n a) ≡ a → (i j : ℕ) → i ≢ s → i ≢ a → j ≢ s → n i ≡ j → p j ≡ i → (upd (upd n s (n a)) a s i ≡ j) × (upd (upd p s a) (n a) s j ≡ i)
    onto m i j is ia js e f = (
      upd_other (upd n s (n a)) a s i ia ∙ upd_other n s (n a) i is ∙ e,
      upd_other (upd p s a) (n a) s j (λ q. ia (sym f ∙ ap p q ∙ m)) ∙ upd_other p s a j js ∙ f,
    )

    joint : (j : ℕ) → j ≢ s → n a ≡ j → (upd (upd n s (n a)) a s a ≡ s) × (upd (upd p s a) (n a) s s ≡ a) × (upd (upd n s (n a)) a s s ≡ j) × (upd (upd p s a) (n a) s j ≡ s)
    joint j h e = (
      upd_same (upd n s (n a)) a s,
      upd_other (upd p s a) (n a) s s (λ q. h (sym (q ∙ e))) ∙ upd_same p s a,
      upd_other (upd n s (n a)) a s s (λ q. ha (sym q)) ∙ upd_same n s (n a) ∙ e,
      ap (upd (upd p s a) (n a) s) (sym e) ∙ upd_same (upd p s a) (n a) s,
    )

    -- s comes first
    pub push : (xs : List ℕ) (z : ℕ) → z ≢ s → Without s xs → Without a xs → Links n p a xs z → Links (upd (upd n s (n a)) a s) (upd (upd p s a) (n a) s) a (s ∷ xs) z
    push [] z hz hs hx l = let r = joint z hz l.0 in (r.0, r.1, (r.2, r.3))
    push (x ∷ xs) z hz hs hx l =
        let r = joint x hs.0 l.0 in
        (r.0, r.1, (r.2, r.3, frame n p _ _ s a (onto (ap p l.0 ∙ l.1)) x xs z hs.0 hx.0 hs.1 hx.1 hz l.2))

  -- s comes in after us
  pub insert : (s a : ℕ) (us vs : List ℕ) (z : ℕ) → a ≢ s → z ≢ s → Without s (us ++ vs) → Without a (us ++ vs) → Links n p a (us ++ vs) z
      → Links (upd (upd n s (n (final a us))) (final a us) s) (upd (upd p s (final a us)) (n (final a us)) s) a (us ++ s ∷ vs) z
  insert s a [] vs z has hzs hs ha l = push s a has vs z hzs hs ha l
  insert s a (x ∷ us) vs z has hzs hs ha l =
      let e : ℕ = final x us in
      let far : e ≢ a = final_in (λ i. i ≢ a) x us ha.0 (all_left (λ i. i ≢ a) us vs ha.1) in
      let back : p (n e) ≡ e = there_and_back e vs z (past x us vs z l.2) in (
        upd_other (upd n s (n e)) e s a (λ q. far (sym q)) ∙ upd_other n s (n e) a has ∙ l.0,
        upd_other (upd p s e) (n e) s x (λ q. far (sym back ∙ sym (ap p q) ∙ l.1)) ∙ upd_other p s e x hs.0 ∙ l.1,
        insert s x us vs z hs.0 hzs hs.1 (once a [] x (us ++ vs) z ha l) l.2,
      )
