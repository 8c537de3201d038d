-- What the calls do to the free order. What carries it: a store at a slot that is not in a chain keeps the chain, and a store at its last
-- slot makes it go on.
use mathlib.Core.Path.{◌≡◌, refl, sym, ap, ◌∙◌, subst}
use mathlib.Core.Logic.{◌≢◌}
use mathlib.Core.List.{List, [], ◌∷◌, ◌++◌}
use Prim.Native.Nat.{ℕ, zero, suc, ◌+◌, ◌≤◌, ◌<◌, ◌-◌}
use native.Mathlib.Omega.{arith}
use lib.ListN.{length, get_or, set, length-set}
use lib.Seq.{get_or-set_same, get_or-set_other, lt-length-set}
use Rattle.numbers.specs.Marks.{LIMIT, NONE}
use Rattle.lists.specs.Lists.{Without, final, from}
use Rattle.lists.proofs.Tests.{by_eq, if_less, if_not_less}
use Rattle.lists.proofs.Members.{all_left, all_right, final_in, final_append, from_in, final_from, in_without}
use Rattle.links.specs.Chain.{Chain, cells}
use Rattle.links.proofs.Chains.{chain_set, chain_on}
use Rattle.numbers.specs.declared.Slot.{Slot}
use Rattle.slot_arena.specs.declared.Order.{Order}
use Rattle.slot_arena.specs.Arena.{USED, InUse, Filled, Takes, Releases, ArenaHolds}
use Rattle.slot_arena.specs.Fill.{filled_cell}
use Rattle.slot_arena.proofs.Free.{holds_distinct, holds_below, marked_without}

-- after a store the table is as long, so that a chain in it has as many places
chain_set_sized : (t : List ℕ) (s v f : ℕ) (xs : List ℕ) → Without s xs → Chain (length t) (cells t) f xs → Chain (length (set t s v)) (cells (set t s v)) f xs
chain_set_sized t s v f xs w p = rw length-set (chain_set (length t) t s v f xs w p)

-- ---- take

-- the last slot of an order after its first was taken: none if the link was NONE, else as before
pub take_last : (t : List ℕ) (o : Order) (s : ℕ) (rest : List ℕ) → ArenaHolds t o (s ∷ rest) → get_or t o.first 0 ≢ NONE → o.last ≡ final NONE rest
take_last t o s [] h d = absurd (d (ap (cells t) h.chain.0 ∙ h.chain.2))
take_last t o s (x ∷ rest) h d = h.last

pub take_alone : (t : List ℕ) (o : Order) (s : ℕ) (rest : List ℕ) → ArenaHolds t o (s ∷ rest) → get_or t o.first 0 ≡ NONE → NONE ≡ final NONE rest
take_alone t o s [] h e = refl
take_alone t o s (x ∷ rest) h e = absurd (omega (arith, h.limit, h.chain.2.0, h.chain.2.1, ap (cells t) h.chain.0))

pub taken : (t : List ℕ) (o : Order) (x : Slot) (o' : Order) → x.0 ≡ o.first → o'.first ≡ get_or t o.first 0
    → ((s : ℕ) (rest : List ℕ) → ArenaHolds t o (s ∷ rest) → o'.last ≡ final NONE rest) → Takes t o (set t o.first USED) x o'
taken t o x o' slot first last = record {
  size = length-set t o.first USED;
  slot = slot;
  holds = λ s rest h. subst (λ (k : ℕ). ArenaHolds (set t k USED) o' rest) (sym h.chain.0) (holds s rest h);
}
  where
    holds : (s : ℕ) (rest : List ℕ) → ArenaHolds t o (s ∷ rest) → ArenaHolds (set t s USED) o' rest
    holds s rest h = record {
      limit = simp length-set h.limit;
      chain =
          chain_set_sized t s USED o'.first rest (holds_distinct t o (s ∷ rest) h).0
          (subst (λ (k : ℕ). Chain (length t) (cells t) k rest) (sym (first ∙ ap (cells t) h.chain.0)) h.chain.2);
      last = last s rest h;
      others = λ k l w.
          by_eq k s
          (λ e. subst (λ (x : ℕ). get_or (set t x USED) k 0 ≡ USED) e (get_or-set_same t k USED 0 (rw length-set at l)))
          (λ d. get_or-set_other t s k USED 0 d ∙ h.others k (rw length-set at l) ((λ e. d (sym e)), w));
    }

-- ---- release

-- where some slot is free, the last one is a slot
last_in : (t : List ℕ) (o : Order) (x : ℕ) (xs : List ℕ) → ArenaHolds t o (x ∷ xs) → o.last < length t
last_in t o x xs h =
    let b = holds_below t o (x ∷ xs) h in
    rw h.last (final_in (λ k. k < length t) x xs b.0 b.1)

-- no slot was free: s is the only one
pub released_alone : (t : List ℕ) (o : Order) (s : ℕ) → length (set t s NONE) ≤ o.last
    → Releases t o s (set t s NONE) (record { first = s; last = s })
released_alone t o s out = record { size = length-set t s NONE; holds = go }
  where
    go : (free : List ℕ) → ArenaHolds t o free → InUse t s → ArenaHolds (set t s NONE) (record { first = s; last = s }) (free ++ s ∷ [])
    go [] h u = record {
      limit = simp length-set h.limit;
      chain = (refl, lt-length-set t s NONE u.0, get_or-set_same t s NONE 0 u.0);
      last = refl;
      others = λ k l v. get_or-set_other t s k NONE 0 (λ e. v.0 (sym e)) ∙ h.others k (rw length-set at l) tt;
    }
    go (x ∷ xs) h u = absurd (omega (arith, last_in t o x xs h, length-set t s NONE))

-- else it comes behind the last one
pub released_behind : (t : List ℕ) (o : Order) (s : ℕ) → o.last < length (set t s NONE)
    → Releases t o s (set (set t s NONE) o.last s) (record { first = o.first; last = s })
released_behind t o s inside = record { size = length-set (set t s NONE) o.last s ∙ length-set t s NONE; holds = go }
  where
    go : (free : List ℕ) → ArenaHolds t o free → InUse t s
        → ArenaHolds (set (set t s NONE) o.last s) (record { first = o.first; last = s }) (free ++ s ∷ [])
    go [] h u = absurd (omega (arith, h.limit, h.last, length-set t s NONE))
    go (x ∷ xs) h u =
        let t₁ = set t s NONE in
        let w = marked_without t o (x ∷ xs) h s u.1 in
        record {
          limit = simp length-set h.limit;
          chain =
              let P : ℕ → ℕ → Type 0 = λ size last. Chain size (cells (set t₁ last s)) o.first (x ∷ (xs ++ s ∷ [])) in
              subst (λ size. P size o.last) (sym (length-set t₁ o.last s))
              (subst (P (length t₁)) (sym h.last)
              (chain_on t₁ s o.first x xs (lt-length-set t s NONE u.0) (get_or-set_same t s NONE 0 u.0) (holds_distinct t o (x ∷ xs) h) w
              (chain_set_sized t s NONE o.first (x ∷ xs) w h.chain)));
          last = sym (final_append x xs (s ∷ []));
          others = λ k l v.
              let a = all_left (λ y. y ≢ k) (x ∷ xs) (s ∷ []) v in
              let b = all_right (λ y. y ≢ k) (x ∷ xs) (s ∷ []) v in
              let c : final x xs ≢ k = final_in (λ y. y ≢ k) x xs a.0 a.1 in
              get_or-set_other t₁ o.last k s 0 (λ q. c (sym (q ∙ h.last)))
              ∙ get_or-set_other t s k NONE 0 (λ q. b.0 (sym q)) ∙ h.others k (simp length-set at l) a;
        }

-- ---- fill

pub cell_next : (size k : ℕ) → k + 1 < size → filled_cell size k ≡ k + 1
cell_next size k h = if_less (k + 1) size (k + 1) NONE h

pub cell_last : (size k : ℕ) → size ≤ k + 1 → filled_cell size k ≡ NONE
cell_last size k h = if_not_less (k + 1) size (k + 1) NONE h

module _ (size : ℕ) (c : ℕ → ℕ) (cell : (k : ℕ) → k < size → c k ≡ filled_cell size k) where
  fill_chain : (j k f : ℕ) → k + j ≡ size → (0 < j → f ≡ k) → (j ≡ 0 → f ≡ NONE) → Chain size c f (from k j)
  fill_chain zero k f e more done = done refl
  fill_chain (suc j) k f e more done = (
    more (omega arith),
    omega arith,
    fill_chain j (k + 1) (c k) (omega arith)
        (λ p. cell k (omega arith) ∙ cell_next size k (omega arith))
        (λ p. cell k (omega arith) ∙ cell_last size k (omega arith)),
  )

pub filled : (t t' : List ℕ) (o : Order) → length t ≤ LIMIT → length t' ≡ length t → ((k : ℕ) → k < length t → get_or t' k 0 ≡ filled_cell (length t) k)
    → (0 < length t → (o.first ≡ 0) × (o.last ≡ length t - 1)) → (length t ≡ 0 → (o.first ≡ NONE) × (o.last ≡ NONE)) → Filled t t' o
filled t t' o limit size cell some none = record {
  size = size;
  holds = record {
    limit = omega arith;
    chain = rw size (fill_chain (length t) (cells t') cell (length t) 0 o.first (omega arith) (λ p. (some p).0) (λ p. (none p).0));
    last = go (length t) refl;
    others = λ s l w. absurd (in_without s (from 0 (length t)) (from_in 0 (length t) s (omega arith) (omega arith)) w);
  };
}
  where
    go : (n : ℕ) → length t ≡ n → o.last ≡ final NONE (from 0 n)
    go zero e = (none e).1
    go (suc n) e = (some (omega arith)).1 ∙ omega (arith, final_from NONE 0 n)
