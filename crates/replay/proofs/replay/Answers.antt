-- A header that begins has a capacity that the tables have places for.
use mathlib.Core.Path.{sym, ◌∙◌}
use Rattle.trace.proofs.Beginning.{begins_fits}
use Rattle.replay.proofs.replay.Goals as goal

pub start-requires : goal.start-requires
start-requires c = (begins_fits _ _ (sym c.header.ensures ∙ c.in-Ok.is)).1
