-- All rows passed are below the frequency; it ends since the frequencies rise.
use mathlib.Core.Path.{◌≡◌}
use Rattle.bucket_table.proofs.Places as laws
use Rattle.bucket_table.specs.declared.Buckets.{Buckets}
use Rattle.bucket_table.proofs.sound.place.Given as goal

abbrev pub invariant-loop-number : goal.invariant-loop-number
invariant-loop-number l = (s : Buckets) → s.bottom ≡ l.initial.number → laws.Passed l.buckets s l.frequency.0 l.at l.number

abbrev pub decreases-loop-number : goal.decreases-loop-number
decreases-loop-number l = laws.rise l.buckets l.number
