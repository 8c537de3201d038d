-- The order within a new list: keys from a higher old frequency stand nearer the head, and keys of one old frequency keep their order. Carried by
-- one law of `join` (`keys_join`): a list that comes to a frequency stands behind what is there already, and the levels come from the highest down.
use mathlib.Core.Path.{◌≡◌, refl, sym, ap, ◌∙◌}
use mathlib.Core.Logic.{inl, inr, ◌≢◌}
use mathlib.Core.Bool.{Bool, true, false, cond}
use mathlib.Core.Option.{some}
use mathlib.Core.List.{List, [], ◌∷◌, ◌++◌, map, map-append, append-nil}
use Prim.Native.Nat.{ℕ, ◌+◌, ◌<◌}
use native.Mathlib.Omega.{arith}
use lib.Dec.{eqb}
use borrow.Author.Tests.{eqb-true}
use Rattle.lists.specs.Lists.{In}
use Rattle.lists.proofs.Tests.{if_eq, by_eq, if_same, if_other}
use Rattle.lists.proofs.Members.{in_left, in_right}
use Rattle.ledger.specs.Ledger.{Entry, Level, Ledger, Item, tag, items, lookup, Rising, WellFormed}
use Rattle.ledger.specs.Walk.{list_of}
use Rattle.ledger.specs.Regroup.{join, regroup, regrouped, NeverFalls, keys_at, Nearer}
use Rattle.ledger.proofs.Items.{found_in}
use Rattle.ledger.proofs.Regrouped.{Ladder, regroup_ladder}
use Rattle.ledger.proofs.Walked.{in_list_of}

-- The keys of a list

abbrev keys : List Entry → List ℕ
keys es = map (λ e. e.key) es

keys_tag : (f : ℕ) (es : List Entry) → map (λ x. x.key) (tag f es []) ≡ keys es
keys_tag f [] = refl
keys_tag f (e ∷ es) = ap {B = List ℕ} (λ ks. e.key ∷ ks) (keys_tag f es)

keys_at_cons : (h : ℕ) (l : Level) (ls : List Level) → keys_at h (l ∷ ls) ≡ cond (eqb l.frequency h) (keys l.entries) (keys_at h ls)
keys_at_cons h l ls = go (eqb l.frequency h)
  where
    go : (b : Bool) → map (λ x. x.key) (cond b (tag h l.entries []) (list_of h ls)) ≡ cond b (keys l.entries) (keys_at h ls)
    go true = keys_tag h l.entries
    go false = refl

keys_at_own : (l : Level) (ls : List Level) (h : ℕ) → l.frequency ≡ h → keys_at h (l ∷ ls) ≡ keys l.entries
keys_at_own l ls h e = keys_at_cons h l ls ∙ if_same l.frequency h (keys l.entries) (keys_at h ls) e

keys_at_rest : (l : Level) (ls : List Level) (h : ℕ) → l.frequency ≢ h → keys_at h (l ∷ ls) ≡ keys_at h ls
keys_at_rest l ls h d = keys_at_cons h l ls ∙ if_other l.frequency h (keys l.entries) (keys_at h ls) d

-- a frequency below all in use has no list
keys_at_below : (h b : ℕ) (ms : List Level) → Ladder b ms → h < b → keys_at h ms ≡ []
keys_at_below h b [] r l = refl
keys_at_below h b (m ∷ ms) r l =
    let q = r.0 in
    keys_at_rest m ms h (λ e. absurd (omega arith)) ∙ keys_at_below h (m.frequency + 1) ms r.1 (omega arith)

rising_ladder : (a : ℕ) (ls : List Level) → Rising a ls → Ladder (a + 1) ls
rising_ladder a [] r = tt
rising_ladder a (l ∷ ls) r = let q = r.0 in (omega arith, rising_ladder l.frequency ls r.3)

-- what comes to a frequency stands behind what is there already
keys_join : (h f : ℕ) (es : List Entry) (ms : List Level) → Ladder f ms → keys_at h (join f es ms) ≡ keys_at h ms ++ cond (eqb f h) (keys es) []
keys_join h f es [] r = keys_at_cons h (record { frequency = f; entries = es }) []
keys_join h f es (m ∷ ms) r =
    if_eq (λ (ls : List Level). keys_at h ls ≡ keys_at h (m ∷ ms) ++ cond (eqb f h) (keys es) []) m.frequency f
    (λ s.
    keys_at_cons h (record { frequency = f; entries = m.entries ++ es }) ms
    ∙ together (eqb f h)
    ∙ sym (ap (λ ks. ks ++ cond (eqb f h) (keys es) []) (keys_at_cons h m ms ∙ ap (λ (z : ℕ). cond (eqb z h) (keys m.entries) (keys_at h ms)) s)))
    (λ d.
    let q = r.0 in
    keys_at_cons h (record { frequency = f; entries = es }) (m ∷ ms)
    ∙ alone (eqb f h) (λ e. keys_at_below h (f + 1) (m ∷ ms) (omega arith, r.1) (omega (arith, eqb-true f h e))))
  where
    together : (b : Bool) → cond b (keys (m.entries ++ es)) (keys_at h ms) ≡ cond b (keys m.entries) (keys_at h ms) ++ cond b (keys es) []
    together true = map-append (λ e. e.key) m.entries es
    together false = sym (append-nil (keys_at h ms))

    alone : (b : Bool) → (b ≡ true → keys_at h (m ∷ ms) ≡ []) → cond b (keys es) (keys_at h (m ∷ ms)) ≡ keys_at h (m ∷ ms) ++ cond b (keys es) []
    alone true empty = sym (ap (λ ks. ks ++ keys es) (empty refl))
    alone false empty = sym (append-nil (keys_at h (m ∷ ms)))

-- Nearer, in two lists put together

nearer_left : (a b : ℕ) (us vs : List ℕ) → Nearer a b us → Nearer a b (us ++ vs)
nearer_left a b [] vs x' = elim x' [ ]
nearer_left a b (u ∷ us) vs (inl n) = inl (n.0, in_left b us vs n.1)
nearer_left a b (u ∷ us) vs (inr n) = inr (nearer_left a b us vs n)

nearer_right : (a b : ℕ) (us vs : List ℕ) → Nearer a b vs → Nearer a b (us ++ vs)
nearer_right a b [] vs n = n
nearer_right a b (u ∷ us) vs n = inr (nearer_right a b us vs n)

nearer_across : (a b : ℕ) (us vs : List ℕ) → In a us → In b vs → Nearer a b (us ++ vs)
nearer_across a b [] vs x'' j = elim x'' [ ]
nearer_across a b (u ∷ us) vs (inl e) j = inl (e, in_right b us vs j)
nearer_across a b (u ∷ us) vs (inr i) j = inr (nearer_across a b us vs i j)

-- The order

-- what of a level comes to frequency h
abbrev coming : (ℕ → ℕ) → ℕ → Level → List ℕ
coming g h l = cond (eqb (g l.frequency) h) (keys l.entries) []

coming_own : (g : ℕ → ℕ) (h : ℕ) (l : Level) → g l.frequency ≡ h → coming g h l ≡ keys l.entries
coming_own g h l e = if_same (g l.frequency) h (keys l.entries) [] e

module _ (g : ℕ → ℕ) (up : NeverFalls g) where
  -- what comes from the lowest level stands last
  keys_regroup : (h a : ℕ) (l : Level) (ls : List Level) → Rising a (l ∷ ls) → keys_at h (regroup g (l ∷ ls)) ≡ keys_at h (regroup g ls) ++ coming g h l
  keys_regroup h a l ls r =
      keys_join h (g l.frequency) l.entries (regroup g ls)
      (regroup_ladder g up l.frequency (g l.frequency) ls r.3 (λ f above c. up l.frequency f (omega arith)))

  -- an old list is a part of the new one: what a list has where a part of it has it is carried over
  stays : (P : List ℕ → Type 0) → ((us vs : List ℕ) → P us → P (us ++ vs)) → ((us vs : List ℕ) → P vs → P (us ++ vs)) →
      (f a : ℕ) (ls : List Level) → Rising a ls → P (keys_at f ls) → P (keys_at (g f) (regroup g ls))
  stays P left right f a [] r p = p
  stays P left right f a (l ∷ ls) r p =
      let higher = keys_at (g f) (regroup g ls) in
      let ih = stays P left right f l.frequency ls r.3 in
      rw (keys_regroup (g f) a l ls r)
      (by_eq l.frequency f
      (λ s. right higher (coming g (g f) l) (rw (coming_own g (g f) l (ap g s)) (rw (keys_at_own l ls f s) at p)))
      (λ d. left higher (coming g (g f) l) (ih (rw (keys_at_rest l ls f d) at p))))

  -- from the higher frequency first: b's level comes after all that are above it
  higher_first : (a b fa fb lo : ℕ) (ls : List Level) → Rising lo ls → fb < fa → g fa ≡ g fb → In a (keys_at fa ls) → In b (keys_at fb ls) →
      Nearer a b (keys_at (g fa) (regroup g ls))
  higher_first a b fa fb lo [] r h e i j = elim i [ ]
  higher_first a b fa fb lo (l ∷ ls) r h e i j =
      let higher = keys_at (g fa) (regroup g ls) in
      let ih = higher_first a b fa fb l.frequency ls r.3 h e in
      rw (keys_regroup (g fa) lo l ls r)
      (by_eq l.frequency fb
      (λ s.
      nearer_across a b higher (coming g (g fa) l)
      (stays (In a) (in_left a) (in_right a) fa l.frequency ls r.3 (rw (keys_at_rest l ls fa (λ q. absurd (omega arith))) at i))
      (rw (coming_own g (g fa) l (ap g s ∙ sym e)) (rw (keys_at_own l ls fb s) at j)))
      (λ d.
      let k : In b (keys_at fb ls) = rw (keys_at_rest l ls fb d) at j in
      nearer_left a b higher (coming g (g fa) l)
      (ih (rw (keys_at_rest l ls fa (λ q. rw (keys_at_below fb (l.frequency + 1) ls (rising_ladder l.frequency ls r.3) (omega arith)) at k)) at i) k)))

in_keys : (xs : List Item) (x : Item) → In x xs → In x.key (map (λ y. y.key) xs)
in_keys [] x x3 = elim x3 [ ]
in_keys (y ∷ ys) x (inl e) = inl (ap (λ (z : Item). z.key) e)
in_keys (y ∷ ys) x (inr i) = inr (in_keys ys x i)

module _ (g : ℕ → ℕ) (up : NeverFalls g) (l : Ledger) (w : WellFormed l) where
  -- a bound key stands in the list of its frequency
  bound_in_lem : (k : ℕ) (x : Item) → lookup k l ≡ some x → In k (keys_at x.frequency l.levels)
  bound_in_lem k x e =
      let i = found_in k (items l.levels) x e in
      rw (← i.1) (in_keys (list_of x.frequency l.levels) x (in_list_of 0 l.levels w.rising x i.0))

  -- Of two keys that come to one list, the one from the higher frequency stands nearer the head.
  pub higher_nearer : (a b : ℕ) (x y : Item) → lookup a l ≡ some x → lookup b l ≡ some y →
      y.frequency < x.frequency → g x.frequency ≡ g y.frequency → Nearer a b (keys_at (g x.frequency) (regrouped g l).levels)
  higher_nearer a b x y p q h e =
      higher_first g up a b x.frequency y.frequency 0 l.levels w.rising h e (bound_in_lem a x p) (bound_in_lem b y q)

  -- Keys of one frequency keep their order.
  pub order_kept : (a b f : ℕ) → Nearer a b (keys_at f l.levels) → Nearer a b (keys_at (g f) (regrouped g l).levels)
  order_kept a b f n = stays g up (Nearer a b) (nearer_left a b) (nearer_right a b) f 0 l.levels w.rising n
