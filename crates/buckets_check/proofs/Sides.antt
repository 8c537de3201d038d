-- The two sides of a slot, by counting: how often it stands in the lists, and how often in the free order. The lists' own mark decides the
-- first, the arena's mark the second. In all, as many slots are bound as the arena has in use.
use mathlib.Core.Path.{◌≡◌}
use mathlib.Core.Logic.{◌≢◌}
use mathlib.Core.List.{List}
use Prim.Native.Nat.{ℕ, ◌≤◌, ◌<◌}
use native.Mathlib.Omega.{arith}
use lib.ListN.{length}
use Rattle.lists.specs.Lists.{All, times}
use Rattle.lists.proofs.Tests.{by_eq}
use Rattle.lists.proofs.Members.{all_map, without_times, times_without}
use Rattle.lists.proofs.Pigeonhole.{distinct_times}
use Rattle.ledger.specs.Ledger.{Ledger, size, WellFormed}
use Rattle.ledger.proofs.Slots.{size_and_free}
use Rattle.links.specs.Chain.{cells}
use Rattle.slot_arena.specs.declared.Order.{Order}
use Rattle.slot_arena.specs.Arena as arena
use Rattle.slot_arena.specs.Check.{used_in}
use Rattle.slot_arena.proofs.Check.{others_counted}
use Rattle.slot_arena.proofs.Free.{holds_distinct, holds_below, in_use_exact}
use Rattle.slot_arena.specs.Arena.{ArenaHolds}
use Rattle.bucket_table.specs.declared.Buckets.{Buckets}
use Rattle.levels.specs.Levels.{Level, members}
use Rattle.levels.specs.Held.{Tabs, Held}
use Rattle.levels.proofs.Lines.{nowhere_members, members_nowhere}
use Rattle.levels.proofs.One.{held_distinct, held_below, free_exact}

-- a number that is past all members is none of them
past : (m : ℕ) (xs : List ℕ) → All (λ x. x < m) xs → (s : ℕ) → m ≤ s → times s xs ≡ 0
past m xs b s l = without_times s xs (all_map (λ x. x < m) (λ x. x ≢ s) (λ x h e. omega arith) xs b)

-- The lists

module _ (t : Tabs) (b : Buckets) (ls : List Level) (h : Held t b ls) where
  pub listed_past : (x : ℕ) → length t.freqs ≤ x → times x (members ls) ≡ 0
  listed_past x l = past (length t.freqs) (members ls) (held_below t b ls h) x l

  pub listed_free : (x : ℕ) → x < length t.freqs → cells t.nexts x ≡ x → times x (members ls) ≡ 0
  listed_free x l e = without_times x (members ls) (nowhere_members x ls ((free_exact t b ls h x l).0 e))

  free_listed : (x : ℕ) → x < length t.freqs → times x (members ls) ≡ 0 → cells t.nexts x ≡ x
  free_listed x l e = (free_exact t b ls h x l).1 (members_nowhere x ls (times_without x (members ls) e))

  pub listed_bound : (x : ℕ) → x < length t.freqs → cells t.nexts x ≢ x → times x (members ls) ≡ 1
  listed_bound x l d =
      let m = distinct_times x (members ls) (held_distinct t b ls h) in
      by_eq (times x (members ls)) 0 (λ e. absurd (d (free_listed x l e))) (λ n. omega arith)

-- The free order

module _ (t : List ℕ) (o : Order) (free : List ℕ) (h : ArenaHolds t o free) where
  pub free_past : (x : ℕ) → length t ≤ x → times x free ≡ 0
  free_past x l = past (length t) free (holds_below t o free h) x l

  pub free_used : (x : ℕ) → arena.InUse t x → times x free ≡ 0
  free_used x u = without_times x free ((in_use_exact t o free h x).0 u).1

  pub used_free : (x : ℕ) → x < length t → times x free ≡ 0 → arena.InUse t x
  used_free x l e = (in_use_exact t o free h x).1 (l, times_without x free e)

  pub free_unused : (x : ℕ) → x < length t → (arena.InUse t x → ⊥) → times x free ≡ 1
  free_unused x l n =
      let m = distinct_times x free (holds_distinct t o free h) in
      by_eq (times x free) 0 (λ e. absurd (n (used_free x l e))) (λ d. omega arith)

-- as many keys are bound as slots are in use: both are what the free order leaves of the capacity
pub bound_used : (t : List ℕ) (o : Order) (l : Ledger) → WellFormed l → ArenaHolds t o l.free → length t ≡ l.capacity → size l ≡ used_in t
bound_used t o l w h e =
    omega (arith, size_and_free l w, others_counted t o.first l.free h.limit h.chain h.others)
