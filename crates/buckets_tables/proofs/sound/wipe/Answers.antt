-- `wipe`: the filled table is so many zeros.
use Rattle.buckets_tables.proofs.Clearing.{zeros_wiped}
use Rattle.buckets_tables.proofs.sound.wipe.Goals as goal

pub returns : goal.returns
returns c = zeros_wiped _ _ (c.fill.ensures.after (λ y e. e)) c.fill.ensures.len
