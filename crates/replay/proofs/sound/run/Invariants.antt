-- Every turn leaves the tables sound.
use Rattle.promise.specs.Promise.{Sound}
use Rattle.buckets_tables.specs.Slices.{Same}
use Rattle.cache_tables.specs.Slices.{lent}
use Rattle.cache_tables.specs.Lent.{cache}
use Rattle.replay.proofs.sound.run.Given as goal

abbrev pub invariant-loop : goal.invariant-loop
invariant-loop l = Same l.initial.guests l.guests l.initial.levels l.levels × Sound cache (lent l.guests l.epochs l.levels l.values) l.state
