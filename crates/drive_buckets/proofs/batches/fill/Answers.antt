-- Key by key: those so far and those to come are all of them.
use Rattle.std.proofs.Common.{rules}
use Rattle.drive_buckets.proofs.Keys.{filling_start, filling_more, filling_end}
use Rattle.drive_buckets.proofs.batches.fill.Goals as goal

pub loop-item-init : goal.loop-item-init
loop-item-init c = filling_start _ _

pub loop-item-preserved : goal.loop-item-preserved
loop-item-preserved c = search (rules, filling_more)

pub returns : goal.returns
returns c = search (rules, filling_end)
