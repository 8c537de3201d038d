-- What a table of slots and its order say. What carries it: the free slots are a chain, whose links are never USED.
use mathlib.Core.Path.{◌≡◌, refl, ap}
use mathlib.Core.Logic.{◌≢◌, ◌↔◌}
use mathlib.Core.List.{List, [], ◌∷◌}
use Prim.Native.Nat.{ℕ, ◌≤◌, ◌<◌}
use native.Mathlib.Omega.{arith}
use lib.ListN.{length, get_or}
use Rattle.numbers.specs.Marks.{NONE}
use Rattle.lists.specs.Lists.{All, Without, Distinct}
use Rattle.lists.proofs.Members.{all_map}
use Rattle.links.specs.Chain.{cells}
use Rattle.links.proofs.Chains.{chain_one, chain_distinct, chain_below, chain_unmarked}
use Rattle.slot_arena.specs.declared.Order.{Order}
use Rattle.slot_arena.specs.Arena.{USED, InUse, ArenaHolds}

module _ (t : List ℕ) (o : Order) where
  -- one reading only
  pub holds_one : (fs gs : List ℕ) → ArenaHolds t o fs → ArenaHolds t o gs → fs ≡ gs
  holds_one fs gs h i = chain_one (length t) (cells t) h.limit o.first fs gs h.chain i.chain

  pub holds_distinct : (free : List ℕ) → ArenaHolds t o free → Distinct free
  holds_distinct free h = chain_distinct (length t) (cells t) h.limit o.first free h.chain

  pub holds_below : (free : List ℕ) → ArenaHolds t o free → All (λ x. x < length t) free
  holds_below free h = chain_below (length t) (cells t) o.first free h.chain

  pub first_slot : (s : ℕ) (rest : List ℕ) → ArenaHolds t o (s ∷ rest) → (o.first ≡ s) × (o.first < length t)
  first_slot s rest h = (h.chain.0, omega (arith, h.chain.0, h.chain.1))

  -- the order is empty exactly when nothing is first
  pub first_none : (free : List ℕ) → ArenaHolds t o free → (free ≡ []) ↔ (o.first ≡ NONE)
  first_none [] h = (λ e. h.chain, λ e. refl)
  first_none (s ∷ rest) h = (
    λ e. let z : ◌≡◌ {A = ℕ} 1 0 = cc in absurd (omega arith),
    λ e. absurd (omega (arith, h.limit, (first_slot s rest h).1)),
  )

  -- a slot that is marked as in use is not free
  pub marked_without : (free : List ℕ) → ArenaHolds t o free → (x : ℕ) → get_or t x 0 ≡ USED → Without x free
  marked_without free h x e =
      all_map (λ y. cells t y ≤ NONE) (λ y. y ≢ x) (λ y l q. omega (arith, ap (cells t) q)) free
      (chain_unmarked (length t) (cells t) h.limit o.first free h.chain)

  -- in use are those that are not free
  pub in_use_exact : (free : List ℕ) → ArenaHolds t o free → (x : ℕ) → InUse t x ↔ ((x < length t) × Without x free)
  in_use_exact free h x = (λ u. (u.0, marked_without free h x u.1), λ w. (w.0, h.others x w.0 w.1))
