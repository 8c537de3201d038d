-- Caches that are alike but for their slots: what a reset, which keeps its slot, has in common with a remove and an insert (document 02, K4).
use Rattle.std.specs.Prelude.{◌≡◌, List, map, ℕ}
use Rattle.ledger.specs.Ledger.{Entry, Level}
use Rattle.ledger.specs.Cache.{Cache, cache_peek}

-- the lists with the slots set aside: each frequency with its keys and their last epochs, head first
abbrev pub unslotted_list : Level → ℕ × List (ℕ × ℕ)
unslotted_list l = (l.frequency, map (λ (e : Entry). (e.key, e.epoch)) l.entries)

abbrev pub unslotted : List Level → List (ℕ × List (ℕ × ℕ))
unslotted ls = map unslotted_list ls

-- the same lists, and the same value for every key
pub record AlikeButSlots (c d : Cache) : Type 0 where
  pub capacities : c.table.capacity ≡ d.table.capacity
  pub epochs : c.table.epoch ≡ d.table.epoch
  pub lists : unslotted c.table.levels ≡ unslotted d.table.levels
  pub answers : (j : ℕ) → (cache_peek j c).0 ≡ (cache_peek j d).0
