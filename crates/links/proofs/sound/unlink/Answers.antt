-- The ring's law for a slot that is taken out, at the two stores made.
use Rattle.std.proofs.Common.{rules}
use Rattle.links.proofs.Lists.{unlinked}
use Rattle.links.proofs.sound.unlink.Goals as goal

pub returns : goal.returns
returns c = search (rules, unlinked)
