-- The five tables of the levels in contracts, as they are lent: for writing or for reading.
use Rattle.std.specs.Prelude.{◌≡◌, List, ℕ, length}
use Rattle.std.specs.Borrow.{Bor, MutBor}
use Rattle.levels.specs.Held.{Tabs, tabs}
use Rattle.levels.specs.declared.Levels.{Levels}

abbrev pub lent : Levels (MutBor (List ℕ)) → Tabs
lent l = tabs l.freqs.now l.prevs.now l.nexts.now l.buckets.now l.spares.now

abbrev pub shown : Levels (Bor (List ℕ)) → Tabs
shown l = tabs l.freqs.now l.prevs.now l.nexts.now l.buckets.now l.spares.now

-- the same five slices, each as long as it was
pub record SameLevels (l l' : Levels (MutBor (List ℕ))) : Type 0 where
  pub freqs : l'.freqs.ghost_name ≡ l.freqs.ghost_name
  pub freqs_size : length l'.freqs.now ≡ length l.freqs.now
  pub prevs : l'.prevs.ghost_name ≡ l.prevs.ghost_name
  pub prevs_size : length l'.prevs.now ≡ length l.prevs.now
  pub nexts : l'.nexts.ghost_name ≡ l.nexts.ghost_name
  pub nexts_size : length l'.nexts.now ≡ length l.nexts.now
  pub buckets : l'.buckets.ghost_name ≡ l.buckets.ghost_name
  pub buckets_size : length l'.buckets.now ≡ length l.buckets.now
  pub spares : l'.spares.ghost_name ≡ l.spares.ghost_name
  pub spares_size : length l'.spares.now ≡ length l.spares.now
