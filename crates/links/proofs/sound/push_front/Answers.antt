-- The ring's law for a slot that comes first, at the stores made.
use Rattle.std.proofs.Common.{rules}
use Rattle.links.proofs.Lists.{pushed, put_size}
use Rattle.links.proofs.sound.push_front.Goals as goal

pub shape_of-prevs : goal.shape_of-prevs
shape_of-prevs c = search (rules, put_size)

pub returns : goal.returns
returns c = search (rules, pushed)
