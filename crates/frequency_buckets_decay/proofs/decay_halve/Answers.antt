-- Halving once is halving one time over: what that promises, by what the two calls are.
use Rattle.ledger.specs.Regroup.{decay_halve}
use Rattle.ledger.specs.BucketCalls.{calls}
use Rattle.frequency_buckets_decay.proofs.decay_halve.Goals as goal

pub returns-clause-does : goal.returns-clause-does
unfolding calls decay_halve
returns-clause-does c = c.decay_halve_times.ensures.does
