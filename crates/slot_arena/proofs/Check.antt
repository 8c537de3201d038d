-- Why the check is exact. What carries it: the walk sees the one chain there can be, and the slots in use are all the others exactly when the two counts make up the whole.
use mathlib.Core.Path.{◌≡◌, sym, ap, ◌∙◌}
use mathlib.Core.Logic.{◌↔◌}
use mathlib.Core.Bool.{true, false}
use mathlib.Core.List.{List}
use Prim.Native.Nat.{ℕ, ◌+◌, ◌≤◌, ◌<◌}
use native.Mathlib.Omega.{arith}
use lib.ListN.{length, get_or}
use lib.Dec.{eqb}
use borrow.Author.Tests.{eq-eqb, ne_eqb, eqb-true}
use Rattle.numbers.specs.Marks.{LIMIT, NONE}
use Rattle.lists.specs.Lists.{All, Without}
use Rattle.lists.proofs.Members.{all_map}
use Rattle.lists.proofs.Pigeonhole.{pigeon_others, pigeon_cover, count_le}
use Rattle.links.specs.Chain.{Chain, cells}
use Rattle.links.proofs.Chains.{chain_distinct, chain_below, chain_unmarked, chain_length}
use Rattle.slot_arena.specs.declared.Order.{Order}
use Rattle.slot_arena.specs.declared.Reached.{Reached}
use Rattle.slot_arena.specs.Arena.{USED, ArenaHolds, ArenaSound}
use Rattle.slot_arena.specs.Check.{marked, used_in, Walks}

module _ (t : List ℕ) (f : ℕ) (fs : List ℕ) (limit : length t ≤ LIMIT) (chain : Chain (length t) (cells t) f fs) where
  unmarked : All (λ x. marked t x ≡ false) fs
  unmarked =
      all_map (λ x. cells t x ≤ NONE) (λ x. marked t x ≡ false) (λ x l. ne_eqb (get_or t x 0) USED (λ e. omega arith)) fs
      (chain_unmarked (length t) (cells t) limit f fs chain)

  -- if the slots in use make up the whole, then all others are in use
  pub counted_others : used_in t + length fs ≡ length t → (s : ℕ) → s < length t → Without s fs → get_or t s 0 ≡ USED
  counted_others e s l w =
      eqb-true (get_or t s 0) USED
      (pigeon_others (marked t) (length t) fs (chain_distinct (length t) (cells t) limit f fs chain) (chain_below (length t) (cells t) f fs chain) unmarked e s l w)

  -- and if all others are in use, then they make up the whole
  pub others_counted : ((s : ℕ) → s < length t → Without s fs → get_or t s 0 ≡ USED) → used_in t + length fs ≡ length t
  others_counted h =
      pigeon_cover (marked t) (length t) fs (chain_distinct (length t) (cells t) limit f fs chain) (chain_below (length t) (cells t) f fs chain) unmarked
      (λ s l w. eq-eqb (get_or t s 0) USED (h s l w))

module _ (t : List ℕ) (o : Order) (r : Reached) (w : Walks t o.first r) where
  -- the walk of a sound table ends, after all free slots
  ended : (free : List ℕ) → ArenaHolds t o free → (r.at ≡ NONE) × (free ≡ w.passed)
  ended free h = w.walked.whole free h.chain

  -- the two counts are small
  pub counts_fit : length t ≤ LIMIT → r.at ≡ NONE → used_in t + r.steps ≤ length t + length t
  counts_fit limit end =
      omega (arith, w.many, chain_length (length t) (cells t) limit o.first w.passed (w.walked.ends end), count_le (marked t) (length t))

  -- what is left to test
  pub counts : (used : ℕ) → length t ≤ LIMIT → r.at ≡ NONE → r.last ≡ o.last → used ≡ used_in t → (eqb (used + r.steps) (length t) ≡ true) ↔ ArenaSound t o
  counts used limit end last n = (
    λ q.
        let chain = w.walked.ends end in (
          w.passed,
          record {
            limit = limit;
            chain = chain;
            last = sym last ∙ sym w.final_one;
            others = counted_others t o.first w.passed limit chain (omega (arith, eqb-true (used + r.steps) (length t) q, w.many));
          },
        ),
    λ s.
        eq-eqb (used + r.steps) (length t)
        (omega (arith, others_counted t o.first s.0 limit s.1.chain s.1.others, ap length (ended s.0 s.1).1, w.many)),
  )
