-- What a history tells and what the ledger holds agree: the frequency of a bound key is one more than its hits, and within a list
-- the last hits or bindings fall from head to tail. Kept by cutting a key out and by placing one in front (Items.antt); from it the
-- tail of the lowest list goes before every other guest.
use mathlib.Core.Path.{◌≡◌, refl, sym, ap, ◌∙◌, subst}
use mathlib.Core.Logic.{◌⊎◌, inl, inr, ◌≢◌}
use mathlib.Core.Bool.{cond}
use mathlib.Core.Option.{some}
use mathlib.Core.List.{List, [], ◌∷◌}
use Prim.Native.Nat.{ℕ, ◌+◌, ◌≤◌, ◌<◌}
use native.Mathlib.Omega.{arith}
use native.Mathlib.Decide.{ℕ_discrete}
use lib.Dec.{eqb}
use Rattle.lists.specs.Lists.{All, one}
use Rattle.lists.proofs.Tests.{if_eq, if_lt, if_same, if_other, one_same}
use Rattle.lists.proofs.Members.{all_map, all_both, all_in}
use Rattle.ledger.specs.Ledger.{Entry, Level, Item, item, tag, items, tail, lowest, Rising, keyed}
use Rattle.ledger.specs.History.{Standing, unbound, guest}
use Rattle.ledger.proofs.Items.{place, cut, sum_place, keyed_cut_other, all_cut, all_cut_other, all_other, all_place}
use Rattle.ledger.proofs.Rising.{Within, all_within, tail_in}

-- what is told of every key
abbrev pub Book : Type 0
Book = ℕ → Standing

-- one key's standing written anew
abbrev pub write : Book → ℕ → Standing → Book
write b k s j = cond (eqb j k) s (b j)

abbrev pub last : Standing → ℕ
last unbound = 0
last (guest n t) = t

-- a bound item, with the standing that is told of its key
abbrev pub Knows : ℕ → Item → Standing → Type 0
Knows now x unbound = ⊥
Knows now x (guest n t) = (x.frequency ≡ n + 1) × (t < now) × (n < now)

-- x stands before y among the items
abbrev pub Before : Book → Item → Item → Type 0
Before b x y = (x.frequency < y.frequency) ⊎ ((x.frequency ≡ y.frequency) × (last (b y.key) < last (b x.key)))

abbrev pub Ordered : Book → List Item → Type 0
Ordered b [] = Unit {0}
Ordered b (x ∷ xs) = All (Before b x) xs × Ordered b xs

pub record Told (now : ℕ) (b : Book) (xs : List Item) : Type 0 where
  pub each : All (λ x. Knows now x (b x.key)) xs
  pub others : (k : ℕ) → keyed k xs ≡ 0 → b k ≡ unbound
  pub ordered : Ordered b xs

-- One key written: the others stand as they did

write_other : (b : Book) (k : ℕ) (s : Standing) (x : Item) → x.key ≢ k → b x.key ≡ write b k s x.key
write_other b k s x d = sym (if_other x.key k s (b x.key) d)

ordered_cut : (b : Book) (k : ℕ) (xs : List Item) → Ordered b xs → Ordered b (cut k xs)
ordered_cut b k [] h = tt
ordered_cut b k (x ∷ xs) h =
    let ih = ordered_cut b k xs h.1 in
    if_eq (Ordered b) x.key k (λ s. ih) (λ d. (all_cut (Before b x) k xs h.0, ih))

before_same : (b d : Book) (x y : Item) → b x.key ≡ d x.key → b y.key ≡ d y.key → Before b x y → Before d x y
before_same b d x y p q (inl h) = inl h
before_same b d x y p q (inr h) = let u = ap last p in let v = ap last q in let w = h.1 in inr (h.0, omega arith)

ordered_same : (b d : Book) (xs : List Item) → All (λ x. b x.key ≡ d x.key) xs → Ordered b xs → Ordered d xs
ordered_same b d [] e h = tt
ordered_same b d (x ∷ xs) e h = (
  all_both (λ y. b y.key ≡ d y.key) (Before b x) (Before d x) (λ y q r. before_same b d x y e.0 q r) xs e.1 h.0,
  ordered_same b d xs e.1 h.1,
)

before_newer : (b : Book) (x y : Item) → x.frequency ≤ y.frequency → last (b y.key) < last (b x.key) → Before b x y
before_newer b x y h l = elim (ℕ_discrete x.frequency y.frequency) [ yes e ↦ inr (e, l) | no d ↦ inl (omega arith) ]

before_le : (b : Book) (x y : Item) → Before b x y → x.frequency ≤ y.frequency
before_le b x y (inl h) = omega arith
before_le b x y (inr h) = let e = h.0 in omega arith

-- whoever was hit or bound last stands in front of its equals
ordered_place : (b : Book) (x : Item) (xs : List Item) → All (λ y. last (b y.key) < last (b x.key)) xs → Ordered b xs → Ordered b (place x xs)
ordered_place b x [] n h = (tt, tt)
ordered_place b x (y ∷ ys) n h =
    let ih = ordered_place b x ys n.1 h.1 in
    if_lt (Ordered b) y.frequency x.frequency
    (λ l. (all_place (Before b y) x ys (inl l) h.0, ih))
    (λ l. (
      (
        before_newer b x y l n.0,
        all_both (λ z. last (b z.key) < last (b x.key)) (Before b y) (Before b x)
            (λ z q r. let m = before_le b y z r in before_newer b x z (omega arith) q) ys n.1 h.0,
      ),
      h,
    ))

-- A key leaves; time passes; a key is placed at the head of its list, at the time `now`

pub told_cut : (now : ℕ) (b : Book) (xs : List Item) (k : ℕ) → Told now b xs → Told now (write b k unbound) (cut k xs)
told_cut now b xs k t = record {
  each =
      all_both (λ x. x.key ≢ k) (λ x. Knows now x (b x.key)) (λ x. Knows now x (write b k unbound x.key))
      (λ x d h. subst (Knows now x) (write_other b k unbound x d) h) (cut k xs) (all_cut_other k xs) (all_cut (λ x. Knows now x (b x.key)) k xs t.each);
  others = λ j h. if_eq (λ z. z ≡ unbound) j k (λ s. refl) (λ d. t.others j (sym (keyed_cut_other j k xs d) ∙ h));
  ordered =
      ordered_same b (write b k unbound) (cut k xs)
      (all_map (λ x. x.key ≢ k) (λ x. b x.key ≡ write b k unbound x.key) (λ x d. write_other b k unbound x d) (cut k xs) (all_cut_other k xs))
      (ordered_cut b k xs t.ordered);
}

knows_later : (now : ℕ) (x : Item) (s : Standing) → Knows now x s → Knows (now + 1) x s
knows_later now x unbound h = h
knows_later now x (guest n t) h = let p = h.1 in let q = h.2 in (h.0, omega arith, omega arith)

knows_last : (now : ℕ) (x : Item) (s : Standing) → Knows now x s → last s < now
knows_last now x unbound h = absurd h
knows_last now x (guest n t) h = h.1

pub told_later : (now : ℕ) (b : Book) (xs : List Item) → Told now b xs → Told (now + 1) b xs
told_later now b xs t = record {
  each =
      all_map (λ x. Knows now x (b x.key)) (λ x. Knows (now + 1) x (b x.key)) (λ x h. knows_later now x (b x.key) h) xs t.each;
  others = t.others;
  ordered = t.ordered;
}

pub told_place : (now : ℕ) (b : Book) (xs : List Item) (x : Item) (n : ℕ) → Told now b xs → keyed x.key xs ≡ 0 → x.frequency ≡ n + 1 → n ≤ now →
    Told (now + 1) (write b x.key (guest n now)) (place x xs)
told_place now b xs x n t f e l =
    let s = guest n now in
    let d = write b x.key s in
    let own : s ≡ d x.key = sym (if_same x.key x.key s (b x.key) refl) in
    let other = all_other x.key xs f in
    record {
      each =
          all_place (λ y. Knows (now + 1) y (d y.key)) x xs
          (subst (Knows (now + 1) x) own (e, omega arith, omega arith))
          (all_both (λ y. y.key ≢ x.key) (λ y. Knows now y (b y.key)) (λ y. Knows (now + 1) y (d y.key))
          (λ y q h. subst (Knows (now + 1) y) (write_other b x.key s y q) (knows_later now y (b y.key) h)) xs other t.each);
      others = λ k z.
          let c = sum_place (λ y. one y.key k) x xs in
          if_eq (λ w. w ≡ unbound) k x.key
          (λ q. absurd (omega (arith, one_same x.key k (sym q))))
          (λ q. t.others k (omega arith));
      ordered =
          ordered_place d x xs
          (all_both (λ y. y.key ≢ x.key) (λ y. Knows now y (b y.key)) (λ y. last (d y.key) < last (d x.key))
          (λ y q h. let u = ap last own in let v = ap last (write_other b x.key s y q) in let w = knows_last now y (b y.key) h in omega arith) xs other t.each)
          (ordered_same b d xs (all_map (λ y. y.key ≢ x.key) (λ y. b y.key ≡ d y.key) (λ y q. write_other b x.key s y q) xs other) t.ordered);
    }

-- The tail of the lowest list goes first

-- v goes before y
abbrev pub Lower : Book → Item → Item → Type 0
Lower b v y = (v.frequency < y.frequency) ⊎ ((v.frequency ≡ y.frequency) × (last (b v.key) < last (b y.key)))

tail_frequency : (f : ℕ) (es : List Entry) (v : Item) → tail f es ≡ some v → v.frequency ≡ f
tail_frequency f [] v e = let z : ◌≡◌ {A = ℕ} 0 1 = cc in absurd (omega arith)
tail_frequency f (d ∷ []) v e = let p : v ≡ item f d = cc in ap (λ (z : Item). z.frequency) p
tail_frequency f (d ∷ (d' ∷ es)) v e = tail_frequency f (d' ∷ es) v e

before_lower : (b : Book) (f : ℕ) (e : Entry) (v : Item) → v.frequency ≡ f → Before b (item f e) v → Lower b v (item f e)
before_lower b f e v p (inl h) = absurd (omega arith)
before_lower b f e v p (inr h) = inr (p, h.1)

tail_first : (b : Book) (f : ℕ) (es : List Entry) (xs : List Item) (v : Item) → tail f es ≡ some v → All (λ y. f < y.frequency) xs → Ordered b (tag f es xs) →
    All (λ y. (y.key ≡ v.key) ⊎ Lower b v y) (tag f es xs)
tail_first b f [] xs v e a o = let z : ◌≡◌ {A = ℕ} 0 1 = cc in absurd (omega arith)
tail_first b f (d ∷ []) xs v e a o =
    let p : v ≡ item f d = cc in
    let q : v.frequency ≡ f = ap (λ (z : Item). z.frequency) p in
    (inl (ap (λ (z : Item). z.key) (sym p)), all_map (λ y. f < y.frequency) (λ y. (y.key ≡ v.key) ⊎ Lower b v y) (λ y h. inr (inl (omega arith))) xs a)
tail_first b f (d ∷ (d' ∷ es)) xs v e a o = (
  inr (before_lower b f d v (tail_frequency f (d' ∷ es) v e) (all_in (Before b (item f d)) (tag f (d' ∷ es) xs) v o.0 (tail_in f (d' ∷ es) xs v e))),
  tail_first b f (d' ∷ es) xs v e a o.1,
)

pub lowest_first : (b : Book) (a : ℕ) (ls : List Level) (v : Item) → Rising a ls → lowest ls ≡ some v → Ordered b (items ls) →
    All (λ y. (y.key ≡ v.key) ⊎ Lower b v y) (items ls)
lowest_first b a [] v r e o = tt
lowest_first b a (l ∷ ls) v r e o =
    tail_first b l.frequency l.entries (items ls) v e
    (all_map (Within l.frequency) (λ y. l.frequency < y.frequency) (λ y h. h.0) (items ls) (all_within l.frequency ls r.3)) o
