-- The store is inside the table, or the end changes.
use Rattle.std.proofs.Common.{rules}
use Rattle.links.proofs.Lists.{put_in, put_out}
use Rattle.links.proofs.sound.put.Goals as goal

pub returns-then-k-t : goal.returns-then-k-t
returns-then-k-t c = search (rules, put_in)

pub returns : goal.returns
returns c = search (rules, put_out)
