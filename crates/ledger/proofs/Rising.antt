-- Levels that rise: linking and unlinking keep them rising, every item's frequency lies between the bounds, and the tail of the
-- lowest list is one of the items. Inductions on the levels.
use mathlib.Core.Path.{◌≡◌, refl}
use mathlib.Core.Logic.{inl, inr}
use mathlib.Core.Option.{none, some}
use mathlib.Core.List.{List, [], ◌∷◌}
use Prim.Native.Nat.{ℕ, ◌≤◌, ◌<◌}
use native.Mathlib.Omega.{arith}
use lib.ListN.{length}
use Rattle.numbers.specs.Frequency.{CEILING}
use Rattle.lists.specs.Lists.{All, In}
use Rattle.lists.proofs.Tests.{if_eq, if_lt}
use Rattle.lists.proofs.Members.{all_map, in_length}
use Rattle.ledger.specs.Ledger.{Entry, Level, Item, item, tag, items, tail, lowest, level, link, without, unlink, NonEmpty, Rising}

pub rising_down : (a b : ℕ) (ls : List Level) → a ≤ b → Rising b ls → Rising a ls
rising_down a b [] h r = tt
rising_down a b (l ∷ ls) h r = let q = r.0 in (omega arith, r.1, r.2, r.3)

rising_level : (a f : ℕ) (es : List Entry) (ls : List Level) → a < f → f ≤ CEILING → Rising f ls → Rising a (level f es ls)
rising_level a f [] ls h c r = rising_down a f ls (omega arith) r
rising_level a f (e ∷ es) ls h c r = (h, c, tt, r)

pub rising_unlink : (k a : ℕ) (ls : List Level) → Rising a ls → Rising a (unlink k ls)
rising_unlink k a [] r = tt
rising_unlink k a (l ∷ ls) r =
    rising_level a l.frequency (without k l.entries) (unlink k ls) r.0 r.1 (rising_unlink k l.frequency ls r.3)

pub rising_link : (f : ℕ) (e : Entry) (a : ℕ) (ls : List Level) → a < f → f ≤ CEILING → Rising a ls → Rising a (link f e ls)
rising_link f e a [] h c r = (h, c, tt, tt)
rising_link f e a (l ∷ ls) h c r =
    if_lt (Rising a) l.frequency f
    (λ s. (r.0, r.1, r.2, rising_link f e l.frequency ls s c r.3))
    (λ s.
    if_eq (Rising a) l.frequency f
    (λ q. (h, c, tt, rising_down f l.frequency ls s r.3))
    (λ d. (h, c, tt, (omega arith, r.1, r.2, r.3))))

-- the frequency of an item lies above a, at most at the ceiling
abbrev pub Within : ℕ → Item → Type 0
Within a x = (a < x.frequency) × (x.frequency ≤ CEILING)

all_tag : (P : Item → Type 0) (f : ℕ) (es : List Entry) (xs : List Item) → ((e : Entry) → P (item f e)) → All P xs → All P (tag f es xs)
all_tag P f [] xs p h = h
all_tag P f (e ∷ es) xs p h = (p e, all_tag P f es xs p h)

pub all_within : (a : ℕ) (ls : List Level) → Rising a ls → All (Within a) (items ls)
all_within a [] r = tt
all_within a (l ∷ ls) r =
    let h = r.0 in
    all_tag (Within a) l.frequency l.entries (items ls) (λ e. (r.0, r.1))
    (all_map (Within l.frequency) (Within a) (λ x p. let q = p.0 in (omega arith, p.1)) (items ls) (all_within l.frequency ls r.3))

-- The tail of the lowest list

pub tail_in : (f : ℕ) (es : List Entry) (xs : List Item) (x : Item) → tail f es ≡ some x → In x (tag f es xs)
tail_in f [] xs x e = let z : ◌≡◌ {A = ℕ} 0 1 = cc in absurd (omega arith)
tail_in f (d ∷ []) xs x e = inl cc
tail_in f (d ∷ (d' ∷ es)) xs x e = inr (tail_in f (d' ∷ es) xs x e)

pub lowest_in : (ls : List Level) (x : Item) → lowest ls ≡ some x → In x (items ls)
lowest_in [] x e = let z : ◌≡◌ {A = ℕ} 0 1 = cc in absurd (omega arith)
lowest_in (l ∷ ls) x e = tail_in l.frequency l.entries (items ls) x e

tail_some : (f : ℕ) (es : List Entry) → NonEmpty es → tail f es ≡ none → ⊥
tail_some f [] n h = elim n [ ]
tail_some f (e ∷ []) n h = let z : ◌≡◌ {A = ℕ} 0 1 = cc in absurd (omega arith)
tail_some f (e ∷ (d ∷ es)) n h = tail_some f (d ∷ es) tt h

-- there is no lowest exactly when nothing is bound
pub lowest_none : (a : ℕ) (ls : List Level) → Rising a ls → lowest ls ≡ none → length (items ls) ≡ 0
lowest_none a [] r h = refl
lowest_none a (l ∷ ls) r h = absurd (tail_some l.frequency l.entries r.2 h)

pub lowest_some : (ls : List Level) (x : Item) → lowest ls ≡ some x → 1 ≤ length (items ls)
lowest_some ls x e = in_length x (items ls) (lowest_in ls x e)
