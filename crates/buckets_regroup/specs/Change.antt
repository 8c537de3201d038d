-- What becomes of a frequency. Halving is the ledger's `halved_times`; lowering by the lowest frequency less one is its `lowered`, on all
-- frequencies from the lowest up. Either way a level stays one, none rises, and none falls past another.
use Rattle.std.specs.Prelude.{ℕ, ◌-◌, max}
use Rattle.numbers.specs.Frequency.{FIRST, halved_times}
use Rattle.buckets_regroup.specs.declared.Change.{Change}
use Rattle.buckets_regroup.specs.declared.Change.TheVariants.{Halved, Lowered}

abbrev pub changed : Change → ℕ → ℕ
changed (Halved n) f = halved_times n f
changed (Lowered n) f = max (f - n) FIRST
