-- Out, and in again at the front.
use Rattle.std.proofs.Common.{rules}
use Rattle.links.proofs.Lists.{moved}
use Rattle.links.proofs.sound.to_front.Goals as goal

pub returns : goal.returns
returns c = search (rules, moved)
