-- The list of a frequency: what holds of all slots holds of its slots, it is that of its level, and a walk stands only at its items.
-- Inductions on the levels.
use mathlib.Core.Path.{◌≡◌, refl, ap, ◌∙◌}
use mathlib.Core.Logic.{inl, inr}
use mathlib.Core.List.{List, [], ◌∷◌, ◌++◌}
use Prim.Native.Nat.{ℕ, ◌<◌}
use native.Mathlib.Omega.{arith}
use Rattle.lists.specs.Lists.{All, In}
use Rattle.lists.proofs.Tests.{if_eq, if_same, if_other}
use Rattle.lists.proofs.Members.{all_left, all_right}
use Rattle.ledger.specs.Ledger.{Ledger, Item, item, items, tag}
use Rattle.ledger.specs.Walk.{in_slot, here, list_of, head, start, after, after_item, step}
use Rattle.ledger.proofs.Walked.{list_of_in}
use Rattle.levels.specs.Levels.{Level, level, members, slot_list, LevelsRise}
use Rattle.buckets_tables.specs.Holds.{entry_at, entries_at}

pub slots_all : (P : ℕ → Type 0) (f : ℕ) (ls : List Level) → All P (members ls) → All P (slot_list f ls)
slots_all P f [] a = tt
slots_all P f (l ∷ ls) a =
    let ih = slots_all P f ls (all_right P l.slots (members ls) a) in
    if_eq (All P) l.freq f (λ e. all_left P l.slots (members ls) a) (λ d. ih)

-- a level that stands among others, whose frequencies rise, is the list of its frequency
rising_past : (a : ℕ) (us : List Level) (f : ℕ) (zs : List ℕ) (vs : List Level) → LevelsRise a (us ++ level f zs ∷ vs) → a < f
rising_past a [] f zs vs r = r.0
rising_past a (u ∷ us) f zs vs r = let b = r.0 in let c = rising_past u.freq us f zs vs r.3 in omega arith

pub slots_there : (a : ℕ) (us : List Level) (f : ℕ) (zs : List ℕ) (vs : List Level) → LevelsRise a (us ++ level f zs ∷ vs) → slot_list f (us ++ level f zs ∷ vs) ≡ zs
slots_there a [] f zs vs r = if_same f f zs (slot_list f vs) refl
slots_there a (u ∷ us) f zs vs r =
    let b = rising_past u.freq us f zs vs r.3 in
    if_other u.freq f u.slots (slot_list f (us ++ level f zs ∷ vs)) (λ e. omega arith) ∙ slots_there u.freq us f zs vs r.3

-- the items before and after one
pub tag_there : (k e : List ℕ) (f : ℕ) (xs : List ℕ) (x : ℕ) (ys : List ℕ) →
    tag f (entries_at k e (xs ++ x ∷ ys)) [] ≡ tag f (entries_at k e xs) [] ++ item f (entry_at k e x) ∷ tag f (entries_at k e ys) []
tag_there k e f [] x ys = refl
tag_there k e f (y ∷ xs) x ys = ap (λ zs. item f (entry_at k e y) ∷ zs) (tag_there k e f xs x ys)

-- What a walk stands at

head_in : (xs : List Item) (z : Item) → head xs ≡ here z → In z xs
head_in [] z e = let c : ◌≡◌ {A = ℕ} 0 1 = cc in absurd (omega arith)
head_in (x ∷ xs) z e = inl cc

after_in : (s : ℕ) (xs : List Item) (z : Item) → after s xs ≡ here z → In z xs
after_in s [] z e = let c : ◌≡◌ {A = ℕ} 0 1 = cc in absurd (omega arith)
after_in s (x ∷ xs) z e =
    if_eq (λ st. st ≡ here z → In z (x ∷ xs)) x.slot s (λ q h. inr (head_in xs z h)) (λ d h. inr (after_in s xs z h)) e

pub start_in : (f : ℕ) (l : Ledger) (z : Item) → start f l ≡ here z → In z (list_of f l.levels)
unfolding start
start_in f l z e = head_in (list_of f l.levels) z e

pub step_in : (x : ℕ) (l : Ledger) (z : Item) → step x l ≡ here z → In z (items l.levels)
unfolding step
step_in x l z e = go (in_slot x (items l.levels)) e
  where
    go : (ys : List Item) → after_item ys x l ≡ here z → In z (items l.levels)
    go [] q = let c : ◌≡◌ {A = ℕ} 0 1 = cc in absurd (omega arith)
    go (y ∷ ys) q = list_of_in y.frequency l.levels z (after_in x (list_of y.frequency l.levels) z q)
