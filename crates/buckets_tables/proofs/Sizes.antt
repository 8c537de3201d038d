-- The lists of slots count what the ledger counts: the keys at a frequency, and those up to one. What carries it: reading slots as the ledger's
-- entries keeps the length of each list, and the ledger's number up to a frequency is a sum over its levels.
use Rattle.std.proofs.Common.{◌≡◌, ℕ, cond, leb, List, length, ap, ◌∙◌}
use Rattle.lists.specs.Lists.{sum}
use Rattle.lists.proofs.Members.{all_any, sum_same}
use Rattle.lists.proofs.Maps.{length_images, sum_images}
use Rattle.ledger.specs.Ledger.{Level, Ledger}
use Rattle.ledger.specs.Walk.{list_of}
use Rattle.ledger.specs.Counts.{size_at, size_up_to}
use Rattle.ledger.proofs.Counts.{tag_length, up_to_levels}
use Rattle.levels.specs.Levels as levels
use Rattle.levels.specs.Levels.{slot_list, count_of, count_up_to}
use Rattle.buckets_tables.specs.Holds.{entry_at, entries_at, levels_at}
use Rattle.buckets_tables.proofs.Entries.{list_slots}

module _ (k e : List ℕ) (l : Ledger) (ls : List levels.Level) (same : l.levels ≡ levels_at k e ls) (f : ℕ) where
  pub size_at_lem : size_at f l ≡ count_of f ls
  size_at_lem =
      ap (λ (ms : List Level). length (list_of f ms)) same
      ∙ ap length (list_slots k e f ls)
      ∙ tag_length f (entries_at k e (slot_list f ls))
      ∙ length_images (entry_at k e) (slot_list f ls)

  -- what a level of the ledger, and one of slots, has up to f
  abbrev keys_up_to : Level → ℕ
  keys_up_to m = cond (leb m.frequency f) (length m.entries) 0

  abbrev slots_up_to : levels.Level → ℕ
  slots_up_to m = cond (leb m.freq f) (length m.slots) 0

  abbrev read : levels.Level → Level
  read m = record { frequency = m.freq; entries = entries_at k e m.slots }

  pub size_up_to_lem : size_up_to f l ≡ count_up_to f ls
  size_up_to_lem =
      up_to_levels f l.levels
      ∙ ap (sum keys_up_to) same
      ∙ sum_images read keys_up_to ls
      ∙ sum_same (λ (m : levels.Level). keys_up_to (read m)) slots_up_to ls
      (all_any (λ (m : levels.Level). keys_up_to (read m) ≡ slots_up_to m)
      (λ m. ap (λ (n : ℕ). cond (leb m.freq f) n 0) (length_images (entry_at k e) m.slots)) ls)
