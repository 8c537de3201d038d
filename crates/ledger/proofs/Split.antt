-- The changes of the levels, where the place of a key is known: ls ≡ us ++ f:[xs, e, ys] ∷ vs. For the layers that keep lists in
-- tables and know such a place. Unlinking leaves the others as they were, since keys differ; linking finds the place by the
-- frequencies, which rise.
use mathlib.Core.Path.{◌≡◌, refl, sym, ap, ◌∙◌}
use mathlib.Core.Logic.{inl, ◌≢◌}
use mathlib.Core.Bool.{Bool, true, false, cond}
use mathlib.Core.List.{List, [], ◌∷◌, ◌++◌, append_assoc, append-nil}
use Prim.Native.Nat.{ℕ, ◌+◌, ◌≤◌, ◌<◌}
use native.Mathlib.Omega.{arith}
use lib.Dec.{eqb, ltb}
use Rattle.numbers.specs.Frequency.{raised}
use Rattle.lists.specs.Lists.{All, In, one}
use Rattle.lists.proofs.Tests.{if_same, if_other, if_less, if_not_less, one_same}
use Rattle.lists.proofs.Members.{all_map, all_append}
use Rattle.ledger.specs.Ledger.{Entry, Level, Item, item, tag, items, level, link, without, unlink, NonEmpty, Rising, keyed}
use Rattle.ledger.proofs.Items.{sum_tag, tag_append, in_tag_rest}

abbrev pub level_of : ℕ → List Entry → Level
level_of f es = record { frequency = f; entries = es }

-- no entry of the levels has the key k
abbrev pub Lacks : ℕ → List Entry → Type 0
Lacks k es = All (λ (e : Entry). e.key ≢ k) es

abbrev pub LacksAll : ℕ → List Level → Type 0
LacksAll k ls = All (λ (l : Level). Lacks k l.entries) ls

-- Unlinking

without_lacks : (k : ℕ) (es : List Entry) → Lacks k es → without k es ≡ es
without_lacks k [] h = refl
without_lacks k (e ∷ es) h =
    if_other e.key k (without k es) (e ∷ without k es) h.0 ∙ ap {B = List Entry} (λ zs. e ∷ zs) (without_lacks k es h.1)

without_at : (k : ℕ) (xs : List Entry) (e : Entry) (ys : List Entry) → e.key ≡ k → Lacks k xs → Lacks k ys → without k (xs ++ e ∷ ys) ≡ xs ++ ys
without_at k [] e ys q hx hy = if_same e.key k (without k ys) (e ∷ without k ys) q ∙ without_lacks k ys hy
without_at k (x ∷ xs) e ys q hx hy =
    if_other x.key k (without k (xs ++ e ∷ ys)) (x ∷ without k (xs ++ e ∷ ys)) hx.0
    ∙ ap {B = List Entry} (λ zs. x ∷ zs) (without_at k xs e ys q hx.1 hy)

level_some : (f : ℕ) (es : List Entry) (ls : List Level) → NonEmpty es → level f es ls ≡ level_of f es ∷ ls
level_some f [] ls n = elim n [ ]
level_some f (e ∷ es) ls n = refl

-- no list is empty
abbrev pub Full : List Level → Type 0
Full ls = All (λ (l : Level). NonEmpty l.entries) ls

unlink_lacks : (k : ℕ) (ls : List Level) → Full ls → LacksAll k ls → unlink k ls ≡ ls
unlink_lacks k [] n h = refl
unlink_lacks k (l ∷ ls) n h =
    (λ i. level l.frequency (without_lacks k l.entries h.0 i) (unlink_lacks k ls n.1 h.1 i))
    ∙ level_some l.frequency l.entries ls n.0

pub unlink_at : (k : ℕ) (us : List Level) (f : ℕ) (xs : List Entry) (e : Entry) (ys : List Entry) (vs : List Level) → e.key ≡ k →
    Full us → Full vs → LacksAll k us → Lacks k xs → Lacks k ys → LacksAll k vs →
    unlink k (us ++ level_of f (xs ++ e ∷ ys) ∷ vs) ≡ us ++ level f (xs ++ ys) vs
unlink_at k [] f xs e ys vs q nu nv hu hx hy hv = λ i. level f (without_at k xs e ys q hx hy i) (unlink_lacks k vs nv hv i)
unlink_at k (u ∷ us) f xs e ys vs q nu nv hu hx hy hv =
    (λ i. level u.frequency (without_lacks k u.entries hu.0 i) (unlink_at k us f xs e ys vs q nu.1 nv hu.1 hx hy hv i))
    ∙ level_some u.frequency u.entries _ nu.0

-- Linking

-- an entry at the head of level f, which is the first one or is made
abbrev pub joined : ℕ → Entry → List Level → List Level
joined f e [] = level_of f (e ∷ []) ∷ []
joined f e (l ∷ ls) = cond (eqb l.frequency f) (level_of f (e ∷ l.entries) ∷ ls) (level_of f (e ∷ []) ∷ l ∷ ls)

abbrev pub Below : ℕ → List Level → Type 0
Below f ls = All (λ (l : Level). l.frequency < f) ls

abbrev pub From : ℕ → List Level → Type 0
From f ls = All (λ (l : Level). f ≤ l.frequency) ls

pub link_from : (f : ℕ) (e : Entry) (ls : List Level) → From f ls → link f e ls ≡ joined f e ls
link_from f e [] h = refl
link_from f e (l ∷ ls) h = if_not_less l.frequency f _ _ h.0

link_at : (f : ℕ) (e : Entry) (us vs : List Level) → Below f us → From f vs → link f e (us ++ vs) ≡ us ++ joined f e vs
link_at f e [] vs hu hv = link_from f e vs hv
link_at f e (u ∷ us) vs hu hv = if_less u.frequency f _ _ hu.0 ∙ ap {B = List Level} (λ zs. u ∷ zs) (link_at f e us vs hu.1 hv)

-- back into the level that it left
pub joined_back : (f : ℕ) (e : Entry) (zs : List Entry) (vs : List Level) → All (λ (l : Level). f < l.frequency) vs →
    joined f e (level f zs vs) ≡ level_of f (e ∷ zs) ∷ vs
joined_back f e [] [] h = refl
joined_back f e [] (v ∷ vs) h = if_other v.frequency f _ _ (λ q. let p = h.0 in absurd (omega arith))
joined_back f e (z ∷ zs) vs h = if_same f f _ _ refl

level_append : (f : ℕ) (zs : List Entry) (us vs : List Level) → us ++ level f zs vs ≡ (us ++ level f zs []) ++ vs
level_append f [] us vs = ap (λ ls. ls ++ vs) (sym (append-nil us))
level_append f (z ∷ zs) us vs = sym (append_assoc us (level_of f (z ∷ zs) ∷ []) vs)

below_level : (f : ℕ) (zs : List Entry) (us : List Level) → Below f us → Below (f + 1) (us ++ level f zs [])
below_level f zs us h =
    all_append (λ (l : Level). l.frequency < f + 1) us (level f zs [])
    (all_map (λ (l : Level). l.frequency < f) (λ (l : Level). l.frequency < f + 1) (λ l q. omega arith) us h) (own zs)
  where
    own : (zs : List Entry) → Below (f + 1) (level f zs [])
    own [] = tt
    own (z ∷ zs) = (omega arith, tt)

from_above : (f : ℕ) (vs : List Level) → All (λ (l : Level). f < l.frequency) vs → From f vs
from_above f vs h = all_map (λ (l : Level). f < l.frequency) (λ (l : Level). f ≤ l.frequency) (λ l q. omega arith) vs h

from_level : (f : ℕ) (zs : List Entry) (vs : List Level) → All (λ (l : Level). f < l.frequency) vs → From f (level f zs vs)
from_level f [] vs h = from_above f vs h
from_level f (z ∷ zs) vs h = (omega arith, from_above f vs h)

-- where an entry of level f goes by a hit: one level up while below the cap, else to the head of its own list
abbrev pub hit_at : ℕ → Entry → ℕ → List Entry → List Level → List Level
hit_at cap e f zs vs = cond (ltb f cap) (level f zs (joined (f + 1) e vs)) (level_of f (e ∷ zs) ∷ vs)

pub hit_at_lem : (cap : ℕ) (e : Entry) (us : List Level) (f : ℕ) (zs : List Entry) (vs : List Level) → Below f us → All (λ (l : Level). f < l.frequency) vs →
    link (raised cap f) e (us ++ level f zs vs) ≡ us ++ hit_at cap e f zs vs
hit_at_lem cap e us f zs vs hu hv = go (ltb f cap)
  where
    go : (b : Bool) → link (cond b (f + 1) f) e (us ++ level f zs vs) ≡ us ++ cond b (level f zs (joined (f + 1) e vs)) (level_of f (e ∷ zs) ∷ vs)
    go true =
        ap (link (f + 1) e) (level_append f zs us vs)
        ∙ link_at (f + 1) e (us ++ level f zs []) vs (below_level f zs us hu)
        (all_map (λ (l : Level). f < l.frequency) (λ (l : Level). f + 1 ≤ l.frequency) (λ l q. omega arith) vs hv)
        ∙ sym (level_append f zs us (joined (f + 1) e vs))
    go false =
        link_at f e us (level f zs vs) hu (from_level f zs vs hv) ∙ ap (λ ls. us ++ ls) (joined_back f e zs vs hv)

-- What rising and the counts of keys say of a place

pub rising_full : (a : ℕ) (ls : List Level) → Rising a ls → Full ls
rising_full a [] r = tt
rising_full a (l ∷ ls) r = (r.2, rising_full l.frequency ls r.3)

pub rising_above : (a : ℕ) (ls : List Level) → Rising a ls → All (λ (l : Level). a < l.frequency) ls
rising_above a [] r = tt
rising_above a (l ∷ ls) r =
    (r.0, all_map (λ (m : Level). l.frequency < m.frequency) (λ (m : Level). a < m.frequency) (λ m h. let q = r.0 in omega arith) ls (rising_above l.frequency ls r.3))

-- the levels below a place lie below it, those above it above
pub rising_split : (a : ℕ) (us : List Level) (l : Level) (vs : List Level) → Rising a (us ++ l ∷ vs) →
    (a < l.frequency) × Below l.frequency us × Rising l.frequency vs
rising_split a [] l vs r = (r.0, tt, r.3)
rising_split a (u ∷ us) l vs r =
    let s = rising_split u.frequency us l vs r.3 in
    let p = r.0 in
    let q = s.0 in
    (omega arith, (s.0, s.1), s.2)

lacks_tag : (k f : ℕ) (es : List Entry) (xs : List Item) → keyed k (tag f es xs) ≡ 0 → Lacks k es × (keyed k xs ≡ 0)
lacks_tag k f [] xs h = (tt, h)
lacks_tag k f (e ∷ es) xs h =
    let r = lacks_tag k f es xs (omega arith) in ((λ q. absurd (omega (arith, one_same e.key k q)), r.0), r.1)

lacks_all : (k : ℕ) (ls : List Level) → keyed k (items ls) ≡ 0 → LacksAll k ls
lacks_all k [] h = tt
lacks_all k (l ∷ ls) h = let r = lacks_tag k l.frequency l.entries (items ls) h in (r.0, lacks_all k ls r.1)

-- how often a key stands in a level in front of others, by the two parts of its list
keyed_parts : (k f : ℕ) (xs ys : List Entry) (zs : List Item) → keyed k (tag f (xs ++ ys) zs) ≡ keyed k (tag f xs []) + keyed k (tag f ys zs)
keyed_parts k f xs ys zs = ap (keyed k) (tag_append f xs ys zs) ∙ sum_tag (λ x. one x.key k) f xs (tag f ys zs)

-- the place itself has its key
keyed_at : (k : ℕ) (us : List Level) (f : ℕ) (xs : List Entry) (e : Entry) (ys : List Entry) (vs : List Level) → e.key ≡ k →
    1 ≤ keyed k (items (us ++ level_of f (xs ++ e ∷ ys) ∷ vs))
keyed_at k [] f xs e ys vs q = let s = keyed_parts k f xs (e ∷ ys) (items vs) in omega (arith, one_same e.key k q)
keyed_at k (u ∷ us) f xs e ys vs q =
    let ih = keyed_at k us f xs e ys vs q in
    let t = sum_tag (λ x. one x.key k) u.frequency u.entries (items (us ++ level_of f (xs ++ e ∷ ys) ∷ vs)) in
    omega arith

-- the item at a place is one of the items
pub in_items : (us : List Level) (f : ℕ) (xs : List Entry) (e : Entry) (ys : List Entry) (vs : List Level) →
    In (item f e) (items (us ++ level_of f (xs ++ e ∷ ys) ∷ vs))
in_items [] f xs e ys vs = rw (tag_append f xs (e ∷ ys) (items vs)) (in_tag_rest f xs (tag f (e ∷ ys) (items vs)) (item f e) (inl refl))
in_items (u ∷ us) f xs e ys vs =
    in_tag_rest u.frequency u.entries (items (us ++ level_of f (xs ++ e ∷ ys) ∷ vs)) (item f e) (in_items us f xs e ys vs)

-- a key that stands once, at the place, stands nowhere else
pub record Alone (k : ℕ) (us : List Level) (xs ys : List Entry) (vs : List Level) : Type 0 where
  pub in_us : LacksAll k us
  pub in_xs : Lacks k xs
  pub in_ys : Lacks k ys
  pub in_vs : LacksAll k vs

pub alone : (k : ℕ) (us : List Level) (f : ℕ) (xs : List Entry) (e : Entry) (ys : List Entry) (vs : List Level) → e.key ≡ k →
    keyed k (items (us ++ level_of f (xs ++ e ∷ ys) ∷ vs)) ≤ 1 → Alone k us xs ys vs
alone k [] f xs e ys vs q h =
    let s = keyed_parts k f xs (e ∷ ys) (items vs) in
    let o = one_same e.key k q in
    let a = lacks_tag k f xs [] (omega arith) in
    let b = lacks_tag k f ys (items vs) (omega arith) in
    record { in_us = tt; in_xs = a.0; in_ys = b.0; in_vs = lacks_all k vs b.1 }
alone k (u ∷ us) f xs e ys vs q h =
    let r = keyed_at k us f xs e ys vs q in
    let t = sum_tag (λ x. one x.key k) u.frequency u.entries (items (us ++ level_of f (xs ++ e ∷ ys) ∷ vs)) in
    let a = alone k us f xs e ys vs q (omega arith) in
    let b = lacks_tag k u.frequency u.entries [] (omega arith) in
    record { in_us = (b.0, a.in_us); in_xs = a.in_xs; in_ys = a.in_ys; in_vs = a.in_vs }
