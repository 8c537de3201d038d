-- The keys at a frequency and up to one: the numbers of all levels add up to `len`, and those of the levels up to a frequency to the number up to
-- it. What carries it: the frequencies rise, so that the list of a level's frequency is that level's, and each number is a sum over the levels.
use mathlib.Core.Path.{◌≡◌, refl, sym, ap, ◌∙◌}
use mathlib.Core.Bool.{Bool, true, false, cond}
use mathlib.Core.List.{List, [], ◌∷◌}
use Prim.Native.Nat.{ℕ, ◌+◌, ◌≤◌, ◌<◌}
use native.Mathlib.Omega.{arith}
use lib.ListN.{length}
use lib.Dec.{leb}
use Rattle.numbers.specs.Frequency.{CEILING}
use Rattle.lists.specs.Lists.{All, sum}
use Rattle.lists.proofs.Tests.{if_same, if_other, if_at_most, if_above}
use Rattle.lists.proofs.Members.{all_map, all_both, sum_same, sum_none, length_sum}
use Rattle.lists.proofs.Maps.{sum_images}
use Rattle.ledger.specs.Ledger.{Entry, Level, Ledger, Item, tag, items, size, Rising, WellFormed}
use Rattle.ledger.specs.Buckets.{Outcome, done, len}
use Rattle.ledger.specs.Walk.{list_of}
use Rattle.ledger.specs.Counts.{size_at, size_up_to, len_up_to, frequencies, up_to}
use Rattle.ledger.proofs.Rising.{Within, all_within}
use Rattle.ledger.proofs.Split.{rising_above}

-- Level by level

-- what an item counts among those up to f
abbrev reached : ℕ → Item → ℕ
reached f x = cond (leb x.frequency f) 1 0

pub tag_length : (f : ℕ) (es : List Entry) → length (tag f es []) ≡ length es
tag_length f [] = refl
tag_length f (e ∷ es) = let ih = tag_length f es in omega arith

-- the list of a level's frequency is as long as the level
pub level_sizes : (a : ℕ) (ls : List Level) → Rising a ls → All (λ (m : Level). length (list_of m.frequency ls) ≡ length m.entries) ls
level_sizes a [] r = tt
level_sizes a (l ∷ ls) r = (
  ap length (if_same l.frequency l.frequency (tag l.frequency l.entries []) (list_of l.frequency ls) refl)
      ∙ tag_length l.frequency l.entries,
  all_both (λ (m : Level). l.frequency < m.frequency) (λ (m : Level). length (list_of m.frequency ls) ≡ length m.entries)
      (λ (m : Level). length (list_of m.frequency (l ∷ ls)) ≡ length m.entries)
      (λ m h e.
      let o = if_other l.frequency m.frequency (tag m.frequency l.entries []) (list_of m.frequency ls) (λ q. absurd (omega arith)) in
      ap length o ∙ e)
      ls (rising_above l.frequency ls r.3) (level_sizes l.frequency ls r.3),
)

up_to_list : (f g : ℕ) (es : List Entry) (xs : List Item) → sum (reached f) (tag g es xs) ≡ cond (leb g f) (length es) 0 + sum (reached f) xs
up_to_list f g [] xs = go (leb g f)
  where
    go : (b : Bool) → sum (reached f) xs ≡ cond b 0 0 + sum (reached f) xs
    go true = omega arith
    go false = omega arith
up_to_list f g (e ∷ es) xs = go (leb g f) (up_to_list f g es xs)
  where
    go : (b : Bool) → sum (reached f) (tag g es xs) ≡ cond b (length es) 0 + sum (reached f) xs →
        cond b 1 0 + sum (reached f) (tag g es xs) ≡ cond b (length (e ∷ es)) 0 + sum (reached f) xs
    go true ih = omega arith
    go false ih = omega arith

pub up_to_levels : (f : ℕ) (ls : List Level) → sum (reached f) (items ls) ≡ sum (λ m. cond (leb m.frequency f) (length m.entries) 0) ls
up_to_levels f [] = refl
up_to_levels f (l ∷ ls) = let ih = up_to_levels f ls in up_to_list f l.frequency l.entries (items ls) ∙ omega arith

-- a sum over those that are at most f
sum_up_to : (h : ℕ → ℕ) (f : ℕ) (gs : List ℕ) → sum h (up_to f gs) ≡ sum (λ g. cond (leb g f) (h g) 0) gs
sum_up_to h f [] = refl
sum_up_to h f (g ∷ gs) = go (leb g f) (sum_up_to h f gs)
  where
    go : (b : Bool) → sum h (up_to f gs) ≡ sum (λ g. cond (leb g f) (h g) 0) gs →
        sum h (cond b (g ∷ up_to f gs) (up_to f gs)) ≡ cond b (h g) 0 + sum (λ g. cond (leb g f) (h g) 0) gs
    go true ih = omega arith
    go false ih = omega arith

up_to_whole : (f : ℕ) (gs : List ℕ) → All (λ g. g ≤ f) gs → up_to f gs ≡ gs
up_to_whole f [] h = refl
up_to_whole f (g ∷ gs) h = if_at_most g f (g ∷ up_to f gs) (up_to f gs) h.0 ∙ ap (λ (r : List ℕ). g ∷ r) (up_to_whole f gs h.1)

in_reach : (a : ℕ) (ls : List Level) → Rising a ls → All (λ g. g ≤ CEILING) (frequencies ls)
in_reach a [] r = tt
in_reach a (l ∷ ls) r = (r.1, in_reach l.frequency ls r.3)

-- The laws

module _ (l : Ledger) (w : WellFormed l) where
  -- up to f there are as many keys as the levels up to f have together
  pub len_up_to_adds : (f : ℕ) → size_up_to f l ≡ sum (λ g. size_at g l) (up_to f (frequencies l.levels))
  len_up_to_adds f =
      up_to_levels f l.levels
      ∙ sum_same (λ (m : Level). cond (leb m.frequency f) (length m.entries) 0)
      (λ (m : Level). cond (leb m.frequency f) (size_at m.frequency l) 0) l.levels
      (all_map (λ (m : Level). size_at m.frequency l ≡ length m.entries)
      (λ (m : Level). cond (leb m.frequency f) (length m.entries) 0 ≡ cond (leb m.frequency f) (size_at m.frequency l) 0)
      (λ m e. ap (λ (n : ℕ). cond (leb m.frequency f) n 0) (sym e)) l.levels (level_sizes 0 l.levels w.rising))
      ∙ sym (sum_images (λ (m : Level). m.frequency) (λ g. cond (leb g f) (size_at g l) 0) l.levels)
      ∙ sym (sum_up_to (λ g. size_at g l) f (frequencies l.levels))

  all_reached : size_up_to CEILING l ≡ size l
  all_reached =
      sum_same (reached CEILING) (λ (x : Item). 1) (items l.levels)
      (all_map (Within 0) (λ x. reached CEILING x ≡ 1) (λ x h. if_at_most x.frequency CEILING 1 0 h.1)
      (items l.levels) (all_within 0 l.levels w.rising))
      ∙ sym (length_sum (items l.levels))

  none_reached : size_up_to 0 l ≡ 0
  none_reached =
      sum_none (reached 0) (items l.levels)
      (all_map (Within 0) (λ x. reached 0 x ≡ 0) (λ x h. if_above x.frequency 0 1 0 h.0)
      (items l.levels) (all_within 0 l.levels w.rising))

  -- the numbers of all levels add up to `len`
  pub levels_add_up : sum (λ g. size_at g l) (frequencies l.levels) ≡ size l
  levels_add_up =
      ap (λ (gs : List ℕ). sum (λ g. size_at g l) gs) (sym (up_to_whole CEILING (frequencies l.levels) (in_reach 0 l.levels w.rising)))
      ∙ sym (len_up_to_adds CEILING) ∙ all_reached

  -- no key is at or below 0, and every key is at or below 2^64 - 1
  pub len_up_to_none : len_up_to 0 l ≡ (done (0 ∷ []), l)
  unfolding len_up_to
  len_up_to_none = ap {B = Outcome} (λ n. (done (n ∷ []), l)) none_reached

  pub len_up_to_all : len_up_to CEILING l ≡ len l
  unfolding len_up_to len
  len_up_to_all = ap {B = Outcome} (λ n. (done (n ∷ []), l)) all_reached
