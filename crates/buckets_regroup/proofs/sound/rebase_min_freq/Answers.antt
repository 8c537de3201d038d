-- Nothing is to be done, or one change of all levels.
use Rattle.buckets_regroup.proofs.Regrouping.{rebase_none, rebases}
use Rattle.buckets_regroup.proofs.sound.rebase_min_freq.Goals as goal

pub returns-then-state-le1-clause-does : goal.returns-then-state-le1-clause-does
returns-then-state-le1-clause-does c = rebase_none _ _ c.if-state-le1.true

pub regrouped-requires : goal.regrouped-requires
regrouped-requires c = c.requires

pub returns-clause-does : goal.returns-clause-does
returns-clause-does c = rebases _ _ c.if-state-le1.false _ _ c.regrouped.ensures.does
