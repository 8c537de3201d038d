-- The nine lent tables, bundled, in the order of every signature.
use Rattle.std.specs.Prelude.{◌≡◌, ℕ, ◌+◌, ◌*◌, List, length}
use Rattle.bucket_table.specs.Records.{WORDS}
use Rattle.levels.specs.Held.{Tabs}

pub record Tables : Type 0 where
  pub keys : List ℕ
  pub freqs : List ℕ
  pub epochs : List ℕ
  pub prevs : List ℕ
  pub nexts : List ℕ
  pub arena : List ℕ
  pub index : List ℕ
  pub buckets : List ℕ
  pub spares : List ℕ

abbrev pub tables : (keys freqs epochs prevs nexts arena index buckets spares : List ℕ) → Tables
tables k f e p n a i b sp = record { keys = k; freqs = f; epochs = e; prevs = p; nexts = n; arena = a; index = i; buckets = b; spares = sp }

-- the tables that the levels lie in
abbrev pub leveled : Tables → Tabs
leveled t = record { freqs = t.freqs; prevs = t.prevs; nexts = t.nexts; buckets = t.buckets; spares = t.spares }

-- each table has the length that a capacity calls for
pub record Sized (t : Tables) (c : ℕ) : Type 0 where
  pub keys_size : length t.keys ≡ c
  pub freqs_size : length t.freqs ≡ c
  pub epochs_size : length t.epochs ≡ c
  pub prevs_size : length t.prevs ≡ c
  pub nexts_size : length t.nexts ≡ c
  pub arena_size : length t.arena ≡ c
  pub index_size : length t.index ≡ c + c
  pub buckets_size : length t.buckets ≡ c * WORDS
  pub spares_size : length t.spares ≡ c
