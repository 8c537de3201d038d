-- One change of all levels.
use Rattle.buckets_regroup.proofs.Regrouping.{halves}
use Rattle.buckets_regroup.proofs.sound.decay_halve_times.Goals as goal

pub regrouped-requires : goal.regrouped-requires
regrouped-requires c = c.requires

pub returns-clause-does : goal.returns-clause-does
returns-clause-does c = halves _ _ _ _ _ c.regrouped.ensures.does
