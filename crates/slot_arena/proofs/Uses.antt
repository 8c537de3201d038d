-- The slots in use as a list that the caller knows. What carries it: the free slots and those in use are as many as the table has, so each slot is one of them, once.
use mathlib.Core.Path.{◌≡◌, sym, ap, ◌∙◌, subst}
use mathlib.Core.Logic.{◌≢◌, ◌↔◌}
use mathlib.Core.List.{List, [], ◌∷◌, ◌++◌}
use Prim.Native.Nat.{ℕ, ◌+◌, ◌≤◌, ◌<◌}
use native.Mathlib.Omega.{arith}
use lib.ListN.{length, length-append}
use Rattle.lists.specs.Lists.{All, In, Without, Distinct, from, times}
use Rattle.lists.proofs.Tests.{by_eq}
use Rattle.lists.proofs.Members.{all_map, all_both, all_append, all_in, all_mid, all_put, length_from, times_in, without_times}
use Rattle.lists.proofs.Totals.{length_total, total_add, total_ones, total_tight}
use Rattle.lists.proofs.Pigeonhole.{distinct_times}
use Rattle.numbers.specs.declared.Slot.{Slot}
use Rattle.slot_arena.specs.declared.Order.{Order}
use Rattle.slot_arena.specs.Arena.{InUse, Uses, Filled, Takes, Releases, ArenaHolds}
use Rattle.slot_arena.proofs.Free.{holds_one, holds_distinct, holds_below, first_slot, marked_without, in_use_exact}

-- ---- each slot once

module _ (t : List ℕ) (o : Order) (free rs : List ℕ) (h : ArenaHolds t o free) (u : Uses t o rs) where
  uses_length : length free + length rs ≡ length t
  uses_length = omega (arith, ap length (holds_one t o free u.sound.0 h u.sound.1), u.many)

  uses_below : All (λ x. x < length t) rs
  uses_below = all_map (InUse t) (λ x. x < length t) (λ x m. m.0) rs u.marks

  -- no slot is among both
  apart : (s : ℕ) → In s rs → times s free ≡ 0
  apart s i = without_times s free (marked_without t o free h s (all_in (InUse t) rs s u.marks i).1)

  module _ (distinct : Distinct rs) where
    at_most_once : (s : ℕ) → times s free + times s rs ≤ 1
    at_most_once s =
        by_eq (times s rs) 0
        (λ e. omega (arith, distinct_times s free (holds_distinct t o free h)))
        (λ d. omega (arith, apart s (times_in s rs (omega arith)), distinct_times s rs distinct))

    -- each slot of the table is free or in use, once
    pub slots_once : (s : ℕ) → s < length t → times s free + times s rs ≡ 1
    slots_once s l =
        total_tight (λ k. times k free + times k rs) (λ k. 1) (length t) (λ k m. at_most_once k)
        (omega (arith, total_ones (length t), total_add (λ k. times k free) (λ k. times k rs) (length t), length_total (length t) free (holds_below t o free h), length_total (length t) rs uses_below, uses_length))
        s l

    -- and no other number is
    pub slots_only : (s : ℕ) → length t ≤ s → times s free + times s rs ≡ 0
    slots_only s l = omega (arith, without_times s free (out free (holds_below t o free h)), without_times s rs (out rs uses_below))
      where
        out : (xs : List ℕ) → All (λ x. x < length t) xs → Without s xs
        out xs b = all_map (λ x. x < length t) (λ x. x ≢ s) (λ x m e. omega arith) xs b

-- in use are exactly the listed slots
pub uses_exact : (t : List ℕ) (o : Order) (rs : List ℕ) → Uses t o rs → Distinct rs → (x : ℕ) → InUse t x ↔ In x rs
uses_exact t o rs u d x =
    let free = u.sound.0 in
    let h = u.sound.1 in (
      λ m.
          times_in x rs
          (omega (arith, slots_once t o free rs h u d x m.0, without_times x free (marked_without t o free h x m.1))),
      λ i. all_in (InUse t) rs x u.marks i,
    )

-- ---- what the calls do to the slots in use

-- with fewer in use than there are, one is free
pub uses_free : (t : List ℕ) (o : Order) (rs : List ℕ) → Uses t o rs → length rs < length t → o.first < length t
uses_free t o rs u l = go u.sound.0 u.sound.1 u.many
  where
    go : (free : List ℕ) → ArenaHolds t o free → length free + length rs ≡ length t → o.first < length t
    go [] h e = absurd (omega arith)
    go (s ∷ free) h e = (first_slot t o s free h).1

-- the slot that is handed out was not in use, and is in use after, beside those that were
pub uses_take : (t : List ℕ) (o : Order) (t' : List ℕ) (q : Slot) (o' : Order) (us vs : List ℕ) → Takes t o t' q o' → Uses t o (us ++ vs) → length (us ++ vs) < length t
    → Uses t' o' (us ++ q.0 ∷ vs) × Without q.0 (us ++ vs)
uses_take t o t' q o' us vs k u l = go u.sound.0 u.sound.1 u.many
  where
    go : (free : List ℕ) → ArenaHolds t o free → length free + length (us ++ vs) ≡ length t → Uses t' o' (us ++ q.0 ∷ vs) × Without q.0 (us ++ vs)
    go [] h e = absurd (omega arith)
    go (x ∷ rest) h e =
        let h' = k.holds x rest h in
        let same : x ≡ q.0 = sym (k.slot ∙ h.chain.0) in
        let still : (y : ℕ) → InUse t y → InUse t' y =
        λ y m. (in_use_exact t' o' rest h' y).1 (omega (arith, k.size, m.0), (marked_without t o (x ∷ rest) h y m.1).1) in
        let fresh : Without q.0 (us ++ vs) =
        all_map (InUse t) (λ y. y ≢ q.0) (λ y m q. (marked_without t o (x ∷ rest) h y m.1).0 (same ∙ sym q)) (us ++ vs) u.marks in
        let new : InUse t' q.0 =
        (in_use_exact t' o' rest h' q.0).1
        (omega (arith, k.size, h.chain.1), subst (λ (z : ℕ). Without z rest) same (holds_distinct t o (x ∷ rest) h).0) in (
          record {
            sound = (rest, h');
            many = omega (arith, length-append us vs, length-append us (q.0 ∷ vs), k.size);
            marks = all_put (InUse t') us q.0 vs new (all_map (InUse t) (InUse t') still (us ++ vs) u.marks);
          },
          fresh,
        )

pub uses_release : (t : List ℕ) (o : Order) (s : ℕ) (t' : List ℕ) (o' : Order) (us vs : List ℕ) → Releases t o s t' o' → Uses t o (us ++ s ∷ vs) → Without s (us ++ vs)
    → Uses t' o' (us ++ vs)
uses_release t o s t' o' us vs k u w =
    let free = u.sound.0 in
    let h = u.sound.1 in
    let m = all_mid (InUse t) us s vs u.marks in
    let h' = k.holds free h m.0 in
    record {
      sound = (free ++ s ∷ [], h');
      many = omega (arith, u.many, length-append us vs, length-append us (s ∷ vs), length-append free (s ∷ []), k.size);
      marks =
          all_both (InUse t) (λ y. y ≢ s) (InUse t')
          (λ y i d.
          (in_use_exact t' o' (free ++ s ∷ []) h' y).1
          (omega (arith, k.size, i.0), all_append (λ z. z ≢ y) free (s ∷ []) (marked_without t o free h y i.1) ((λ q. d (sym q)), tt)))
          (us ++ vs) m.1 w;
    }

-- a filled table has no slot in use
pub uses_filled : (t t' : List ℕ) (o : Order) → Filled t t' o → Uses t' o []
uses_filled t t' o k =
    record { sound = (from 0 (length t), k.holds); many = omega (arith, length_from 0 (length t), k.size); marks = tt }
