-- It stands where the walk does after as many steps as were gone.
use Rattle.buckets_tables.specs.Slices.{shown}
use Rattle.frequency_buckets_walker.specs.Walks.{Nth}
use Rattle.frequency_buckets_walker.proofs.nth.Given as goal

abbrev pub invariant-loop : goal.invariant-loop
invariant-loop l = Nth (shown l.guests l.epochs l.levels) l.fn.state l.fn.frequency.0 l.counter l.at
