-- The ledger that sound tables hold, as a function of them: the links are followed, for at most as many steps as there are slots.
-- On tables that hold a ledger it is that one (`ledger_of_lem` of proofs/Read.antt); of other tables it says nothing.
use Rattle.std.specs.Prelude.{ℕ, zero, suc, cond, List, [], ◌∷◌, map, nat_lt}
use Rattle.ledger.specs.Ledger.{Ledger}
use Rattle.links.specs.Chain.{cells}
use Rattle.bucket_table.specs.Records.{frequency, higher, head}
use Rattle.levels.specs.Levels as levels
use Rattle.buckets_tables.specs.declared.State.{State}
use Rattle.buckets_tables.specs.Tables.{Tables}
use Rattle.buckets_tables.specs.Holds.{levels_at}

-- the places below `size` that the links `n` lead through from `at`: `steps` of them at most
unfoldable pub followed : (steps size : ℕ) → (n : ℕ → ℕ) → (at : ℕ) → List ℕ
followed zero size n at = []
followed (suc k) size n at = let rest = followed k size n (n at) in cond (nat_lt at size) (at ∷ rest) []

-- the list of a bucket record
abbrev pub list_at : Tables → (capacity : ℕ) → ℕ → levels.Level
list_at t c r = levels.level (frequency t.buckets r) (followed c c (cells t.nexts) (head t.buckets r))

-- the lists of all records, from the lowest up
abbrev pub slots_of : Tables → State → List levels.Level
slots_of t s = map (list_at t s.capacity) (followed s.capacity s.capacity (higher t.buckets) s.buckets.bottom)

unfoldable pub ledger_of : Tables → State → Ledger
ledger_of t s = record {
  capacity = s.capacity;
  epoch = s.epoch;
  levels = levels_at t.keys t.epochs (slots_of t s);
  free = followed s.capacity s.capacity (cells t.arena) s.free.first;
}
