-- The levels seen as one list of items: `link` places an item, `unlink` cuts a key out, and what is counted over the items
-- changes by exactly that item. All counting of the ledger is done here, so that later proofs are sums that omega closes.
use mathlib.Core.Path.{◌≡◌, refl, sym, ap, ◌∙◌}
use mathlib.Core.Logic.{inl, inr, ◌≢◌}
use mathlib.Core.Bool.{Bool, true, false, cond}
use mathlib.Core.Option.{none, some}
use mathlib.Core.List.{List, [], ◌∷◌, ◌++◌}
use Prim.Native.Nat.{ℕ, ◌+◌, ◌≤◌, ◌<◌}
use native.Mathlib.Omega.{arith}
use lib.Dec.{eqb, ltb}
use Rattle.lists.specs.Lists.{All, In, sum, one}
use Rattle.lists.proofs.Tests.{if_eq, if_lt, if_same, if_other, if_less, if_not_less, one_same, one_other}
use Rattle.ledger.specs.Ledger.{Entry, Level, Item, item, tag, items, found, level, link, without, unlink, NonEmpty, Rising, keyed}

-- What is found

pub found_in : (k : ℕ) (xs : List Item) (x : Item) → found k xs ≡ some x → In x xs × (x.key ≡ k)
found_in k [] x e = let z : ◌≡◌ {A = ℕ} 0 1 = cc in absurd (omega arith)
found_in k (y ∷ ys) x e =
    if_eq (λ z. z ≡ some x → In x (y ∷ ys) × (x.key ≡ k)) y.key k
    (λ s h. let p : y ≡ x = cc in (inl p, rw p at s))
    (λ d h. let r = found_in k ys x h in (inr r.0, r.1)) e

pub found_none : (k : ℕ) (xs : List Item) → found k xs ≡ none → keyed k xs ≡ 0
found_none k [] e = refl
found_none k (y ∷ ys) e =
    if_eq (λ z. z ≡ none → keyed k (y ∷ ys) ≡ 0) y.key k
    (λ s h. let z : ◌≡◌ {A = ℕ} 0 1 = cc in absurd (omega arith))
    (λ d h. let r = found_none k ys h in omega (arith, one_other y.key k d)) e

pub none_found : (k : ℕ) (xs : List Item) → keyed k xs ≡ 0 → found k xs ≡ none
none_found k [] h = refl
none_found k (x ∷ xs) h =
    if_eq (λ z. z ≡ none) x.key k
    (λ s. absurd (omega (arith, one_same x.key k s))) (λ d. none_found k xs (omega arith))

pub in_keyed : (xs : List Item) (x : Item) → In x xs → 1 ≤ keyed x.key xs
in_keyed [] x x3 = elim x3 [ ]
in_keyed (y ∷ ys) x (inl e) = omega (arith, one_same y.key x.key (ap (λ (z : Item). z.key) e))
in_keyed (y ∷ ys) x (inr i) = let r = in_keyed ys x i in omega arith

-- an item whose key stands once is what is found
pub in_found : (xs : List Item) (x : Item) → In x xs → keyed x.key xs ≤ 1 → found x.key xs ≡ some x
in_found [] x x4 h = elim x4 [ ]
in_found (y ∷ ys) x (inl e) h = if_same y.key x.key (some y) (found x.key ys) (ap (λ (z : Item). z.key) e) ∙ ap some e
in_found (y ∷ ys) x (inr i) h =
    let c = in_keyed ys x i in
    if_eq (λ z. z ≡ some x) y.key x.key
    (λ s. absurd (omega (arith, one_same y.key x.key s)))
    (λ d. in_found ys x i (omega arith))

-- an item with the key k, and what holds of it as of all
pub pick : (P : Item → Type 0) (k : ℕ) (xs : List Item) → All P xs → 1 ≤ keyed k xs → (y : Item) × In y xs × (y.key ≡ k) × P y
pick P k [] h c = absurd (omega arith)
pick P k (y ∷ ys) h c =
    if_eq (λ n. 1 ≤ n + keyed k ys → (z : Item) × In z (y ∷ ys) × (z.key ≡ k) × P z) y.key k
    (λ s l. (y, inl refl, s, h.0))
    (λ d l. let r = pick P k ys h.1 (omega arith) in (r.0, inr r.1, r.2, r.3)) c

-- The two changes

abbrev pub place : Item → List Item → List Item
place x [] = x ∷ []
place x (y ∷ ys) = cond (ltb y.frequency x.frequency) (y ∷ place x ys) (x ∷ y ∷ ys)

abbrev pub cut : ℕ → List Item → List Item
cut k [] = []
cut k (x ∷ xs) = cond (eqb x.key k) (cut k xs) (x ∷ cut k xs)

items_level : (f : ℕ) (es : List Entry) (ls : List Level) → items (level f es ls) ≡ tag f es (items ls)
items_level f [] ls = refl
items_level f (e ∷ es) ls = refl

tag_without : (k f : ℕ) (es : List Entry) (xs : List Item) → tag f (without k es) (cut k xs) ≡ cut k (tag f es xs)
tag_without k f [] xs = refl
tag_without k f (e ∷ es) xs = go (eqb e.key k) (tag_without k f es xs)
  where
    go : (b : Bool) → tag f (without k es) (cut k xs) ≡ cut k (tag f es xs) →
        tag f (cond b (without k es) (e ∷ without k es)) (cut k xs) ≡ cond b (cut k (tag f es xs)) (item f e ∷ cut k (tag f es xs))
    go true h = h
    go false h = ap {B = List Item} (λ r. item f e ∷ r) h

pub items_unlink : (k : ℕ) (ls : List Level) → items (unlink k ls) ≡ cut k (items ls)
items_unlink k [] = refl
items_unlink k (l ∷ ls) =
    items_level l.frequency (without k l.entries) (unlink k ls)
    ∙ ap (λ r. tag l.frequency (without k l.entries) r) (items_unlink k ls)
    ∙ tag_without k l.frequency l.entries (items ls)

place_tag : (x : Item) (g : ℕ) (es : List Entry) (xs : List Item) → g < x.frequency → place x (tag g es xs) ≡ tag g es (place x xs)
place_tag x g [] xs h = refl
place_tag x g (e ∷ es) xs h = if_less g x.frequency _ _ h ∙ ap {B = List Item} (λ r. item g e ∷ r) (place_tag x g es xs h)

pub items_link : (f : ℕ) (e : Entry) (lo : ℕ) (ls : List Level) → Rising lo ls → items (link f e ls) ≡ place (item f e) (items ls)
items_link f e lo [] r = refl
items_link f e lo (l ∷ ls) r =
    if_lt (λ z. items z ≡ place (item f e) (items (l ∷ ls))) l.frequency f
    (λ h.
    ap (λ t. tag l.frequency l.entries t) (items_link f e l.frequency ls r.3)
    ∙ sym (place_tag (item f e) l.frequency l.entries (items ls) h))
    (λ h.
    if_eq (λ z. items z ≡ place (item f e) (items (l ∷ ls))) l.frequency f
    (λ s. ap {B = List Item} (λ g. item f e ∷ tag g l.entries (items ls)) (sym s) ∙ front l.entries r.2 h)
    (λ d. front l.entries r.2 h))
  where
    front : (es : List Entry) → NonEmpty es → f ≤ l.frequency →
        item f e ∷ tag l.frequency es (items ls) ≡ place (item f e) (tag l.frequency es (items ls))
    front [] n h = elim n [ ]
    front (d ∷ ds) n h = sym (if_not_less l.frequency f _ _ h)

-- what stands behind a list stands in the whole
pub in_tag_rest : (f : ℕ) (es : List Entry) (xs : List Item) (x : Item) → In x xs → In x (tag f es xs)
in_tag_rest f [] xs x i = i
in_tag_rest f (e ∷ es) xs x i = inr (in_tag_rest f es xs x i)

-- Counting

pub sum_tag : (g : Item → ℕ) (f : ℕ) (es : List Entry) (xs : List Item) → sum g (tag f es xs) ≡ sum g (tag f es []) + sum g xs
sum_tag g f [] xs = omega arith
sum_tag g f (e ∷ es) xs = let ih = sum_tag g f es xs in omega arith

pub tag_append : (f : ℕ) (es ds : List Entry) (xs : List Item) → tag f (es ++ ds) xs ≡ tag f es (tag f ds xs)
tag_append f [] ds xs = refl
tag_append f (e ∷ es) ds xs = ap {B = List Item} (λ r. item f e ∷ r) (tag_append f es ds xs)

-- g at the items with the key k, else 0
abbrev only : ℕ → (Item → ℕ) → Item → ℕ
only k g x = cond (eqb x.key k) (g x) 0

pub sum_place : (g : Item → ℕ) (x : Item) (xs : List Item) → sum g (place x xs) ≡ g x + sum g xs
sum_place g x [] = refl
sum_place g x (y ∷ ys) =
    let ih = sum_place g x ys in
    if_lt (λ z. sum g z ≡ g x + (g y + sum g ys)) y.frequency x.frequency (λ h. omega arith) (λ h. refl)

sum_cut : (g : Item → ℕ) (k : ℕ) (xs : List Item) → sum g (cut k xs) + sum (only k g) xs ≡ sum g xs
sum_cut g k [] = refl
sum_cut g k (x ∷ xs) = go (eqb x.key k) (sum_cut g k xs)
  where
    go : (b : Bool) → sum g (cut k xs) + sum (only k g) xs ≡ sum g xs →
        sum g (cond b (cut k xs) (x ∷ cut k xs)) + (cond b (g x) 0 + sum (only k g) xs) ≡ g x + sum g xs
    go true h = omega arith
    go false h = omega arith

only_none : (g : Item → ℕ) (k : ℕ) (xs : List Item) → keyed k xs ≡ 0 → sum (only k g) xs ≡ 0
only_none g k [] h = refl
only_none g k (x ∷ xs) h = go (eqb x.key k) h (λ e. only_none g k xs e)
  where
    go : (b : Bool) → cond b 1 0 + keyed k xs ≡ 0 → (keyed k xs ≡ 0 → sum (only k g) xs ≡ 0) → cond b (g x) 0 + sum (only k g) xs ≡ 0
    go true h r = absurd (omega arith)
    go false h r = let q = r (omega arith) in omega arith

only_one : (g : Item → ℕ) (xs : List Item) (x : Item) → In x xs → keyed x.key xs ≤ 1 → sum (only x.key g) xs ≡ g x
only_one g [] x x4 h = elim x4 [ ]
only_one g (y ∷ ys) x (inl e) h =
    let s : y.key ≡ x.key = ap (λ (z : Item). z.key) e in
    let z : sum (only x.key g) ys ≡ 0 = only_none g x.key ys (omega (arith, one_same y.key x.key s)) in
    let w : only x.key g y ≡ g y = if_same y.key x.key (g y) 0 s in
    let v : g y ≡ g x = ap g e in
    omega arith
only_one g (y ∷ ys) x (inr i) h =
    let ih = only_one g ys x i (omega arith) in
    let c = in_keyed ys x i in
    if_eq (λ z. z + keyed x.key ys ≤ 1 → only x.key g y + sum (only x.key g) ys ≡ g x) y.key x.key
    (λ s l. absurd (omega arith))
    (λ d l. let w : only x.key g y ≡ 0 = if_other y.key x.key (g y) 0 d in omega arith) h

-- the item that is cut out is what the sum loses
pub sum_cut_in : (g : Item → ℕ) (xs : List Item) (x : Item) → In x xs → keyed x.key xs ≤ 1 → sum g (cut x.key xs) + g x ≡ sum g xs
sum_cut_in g xs x i h = let a = sum_cut g x.key xs in let b = only_one g xs x i h in omega arith

pub keyed_cut_same : (k : ℕ) (xs : List Item) → keyed k (cut k xs) ≡ 0
keyed_cut_same k [] = refl
keyed_cut_same k (x ∷ xs) =
    let ih = keyed_cut_same k xs in
    if_eq (λ z. keyed k z ≡ 0) x.key k (λ s. ih) (λ d. omega (arith, one_other x.key k d))

pub keyed_cut_other : (j k : ℕ) (xs : List Item) → j ≢ k → keyed j (cut k xs) ≡ keyed j xs
keyed_cut_other j k [] h = refl
keyed_cut_other j k (x ∷ xs) h =
    let ih = keyed_cut_other j k xs h in
    if_eq (λ z. keyed j z ≡ one x.key j + keyed j xs) x.key k
    (λ s. omega (arith, one_other x.key j (λ e. h (sym e ∙ s)))) (λ d. omega arith)

pub keyed_cut_le : (j k : ℕ) (xs : List Item) → keyed j (cut k xs) ≤ keyed j xs
keyed_cut_le j k xs = omega (arith, sum_cut (λ x. one x.key j) k xs)

-- What is found after a change

-- behind a list without the key
found_behind : (k f : ℕ) (es : List Entry) (xs ys : List Item) → keyed k (tag f es xs) ≡ 0 → found k (tag f es ys) ≡ found k ys
found_behind k f [] xs ys h = refl
found_behind k f (e ∷ es) xs ys h =
    if_other e.key k (some (item f e)) (found k (tag f es ys)) (λ q. absurd (omega (arith, one_same e.key k q)))
    ∙ found_behind k f es xs ys (omega arith)

found_tag : (k f : ℕ) (es : List Entry) (xs ys : List Item) → found k xs ≡ found k ys → found k (tag f es xs) ≡ found k (tag f es ys)
found_tag k f [] xs ys h = h
found_tag k f (e ∷ es) xs ys h = ap (λ z. cond (eqb e.key k) (some (item f e)) z) (found_tag k f es xs ys h)

-- an unbound key that is put into a list is found there
pub found_link : (f : ℕ) (e : Entry) (ls : List Level) → keyed e.key (items ls) ≡ 0 → found e.key (items (link f e ls)) ≡ some (item f e)
found_link f e [] h = if_same e.key e.key (some (item f e)) none refl
found_link f e (l ∷ ls) h =
    let here : (xs : List Item) → found e.key (item f e ∷ xs) ≡ some (item f e)
    = λ xs. if_same e.key e.key (some (item f e)) (found e.key xs) refl in
    if_lt (λ z. found e.key (items z) ≡ some (item f e)) l.frequency f
    (λ s.
    found_behind e.key l.frequency l.entries (items ls) (items (link f e ls)) h
    ∙ found_link f e ls (omega (arith, sum_tag (λ x. one x.key e.key) l.frequency l.entries (items ls))))
    (λ s.
    if_eq (λ z. found e.key (items z) ≡ some (item f e)) l.frequency f
    (λ q. here (tag f l.entries (items ls))) (λ q. here (items (l ∷ ls))))

-- and other keys are found as before
pub found_link_other : (j f : ℕ) (e : Entry) (ls : List Level) → e.key ≢ j → found j (items (link f e ls)) ≡ found j (items ls)
found_link_other j f e [] d = if_other e.key j (some (item f e)) none d
found_link_other j f e (l ∷ ls) d =
    let past : (xs : List Item) → found j (item f e ∷ xs) ≡ found j xs = λ xs. if_other e.key j (some (item f e)) (found j xs) d in
    if_lt (λ z. found j (items z) ≡ found j (items (l ∷ ls))) l.frequency f
    (λ s. found_tag j l.frequency l.entries (items (link f e ls)) (items ls) (found_link_other j f e ls d))
    (λ s.
    if_eq (λ z. found j (items z) ≡ found j (items (l ∷ ls))) l.frequency f
    (λ q. past (tag f l.entries (items ls)) ∙ ap (λ (g : ℕ). found j (tag g l.entries (items ls))) (sym q)) (λ q. past (items (l ∷ ls))))

pub found_cut_other : (j k : ℕ) (xs : List Item) → j ≢ k → found j (cut k xs) ≡ found j xs
found_cut_other j k [] d = refl
found_cut_other j k (x ∷ xs) d =
    let ih = found_cut_other j k xs d in
    if_eq (λ z. found j z ≡ found j (x ∷ xs)) x.key k
    (λ s. ih ∙ sym (if_other x.key j (some x) (found j xs) (λ q. d (sym q ∙ s))))
    (λ q. ap (λ z. cond (eqb x.key j) (some x) z) ih)

-- What holds of all items

pub all_cut : (P : Item → Type 0) (k : ℕ) (xs : List Item) → All P xs → All P (cut k xs)
all_cut P k [] h = tt
all_cut P k (x ∷ xs) h = let ih = all_cut P k xs h.1 in if_eq (All P) x.key k (λ s. ih) (λ d. (h.0, ih))

-- what is left has other keys
pub all_cut_other : (k : ℕ) (xs : List Item) → All (λ x. x.key ≢ k) (cut k xs)
all_cut_other k [] = tt
all_cut_other k (x ∷ xs) =
    let ih = all_cut_other k xs in if_eq (All (λ x. x.key ≢ k)) x.key k (λ s. ih) (λ d. (d, ih))

pub all_other : (k : ℕ) (xs : List Item) → keyed k xs ≡ 0 → All (λ x. x.key ≢ k) xs
all_other k [] h = tt
all_other k (x ∷ xs) h = (λ e. absurd (omega (arith, one_same x.key k e)), all_other k xs (omega arith))

pub all_place : (P : Item → Type 0) (x : Item) (xs : List Item) → P x → All P xs → All P (place x xs)
all_place P x [] p h = (p, tt)
all_place P x (y ∷ ys) p h =
    let ih = all_place P x ys p h.1 in
    if_lt (All P) y.frequency x.frequency (λ s. (h.0, ih)) (λ d. (p, h))

pub in_cut : (k : ℕ) (xs : List Item) (x : Item) → In x xs → x.key ≢ k → In x (cut k xs)
in_cut k [] x x4 d = elim x4 [ ]
in_cut k (y ∷ ys) x (inl e) d =
    if_eq (In x) y.key k (λ s. absurd (d (ap (λ (z : Item). z.key) (sym e) ∙ s))) (λ q. inl e)
in_cut k (y ∷ ys) x (inr i) d = let ih = in_cut k ys x i d in if_eq (In x) y.key k (λ s. ih) (λ q. inr ih)
