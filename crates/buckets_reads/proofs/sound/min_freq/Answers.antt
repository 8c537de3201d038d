-- The state's lowest frequency is the ledger's, and 0 where no key is bound.
use Rattle.buckets_reads.proofs.Telling as telling
use Rattle.buckets_reads.proofs.sound.min_freq.Goals as goal

pub returns-then-state-eq0 : goal.returns-then-state-eq0
returns-then-state-eq0 c = λ t. telling.min_empty _ _ c.if-state-eq0.true

pub returns : goal.returns
returns c = λ t. telling.min_some _ _ c.if-state-eq0.false
