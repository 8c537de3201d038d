-- What the walk of the check finds.
use Rattle.std.specs.Prelude.{◌≡◌, Bool, true, List, ℕ, ◌*◌, ◌<◌, ◌≤◌, length}
use Rattle.numbers.specs.Marks.{LIMIT}
use Rattle.numbers.specs.Frequency.{CEILING}
use Rattle.slot_arena.specs.Arena.{InUse, ArenaSound}
use Rattle.slot_arena.specs.Check.{used_in}
use Rattle.bucket_table.specs.declared.Buckets.{Buckets}
use Rattle.bucket_table.specs.Records.{WORDS, frequency, lower, RecordsSound}

pub record RecordsSized (b sp : List ℕ) : Type 0 where
  pub size : length b ≡ length sp * WORDS
  pub limit : length sp ≤ LIMIT

-- record r can come after `at`, whose frequency is `low`
pub record RecordOk (b sp : List ℕ) (low at r : ℕ) : Type 0 where
  pub used : InUse sp r
  pub back : lower b r ≡ at
  pub above : low < frequency b r
  pub ceiling : frequency b r ≤ CEILING

-- the walk says yes exactly where there are rows, as many as the arena has slots in use
pub record RecordsWalk (b sp : List ℕ) (s : Buckets) (used : ℕ) (ok : Bool) : Type 0 where
  pub good : used ≡ used_in sp → ArenaSound sp s.spare → ok ≡ true → RecordsSound b sp s
  pub all : used ≡ used_in sp → RecordsSound b sp s → ok ≡ true
