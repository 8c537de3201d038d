-- At the end all words have been passed, and words are counted place by place.
use native.Mathlib.Omega.{arith}
use mathlib.Core.Path.{ap, ◌∙◌}
use lib.Dec.{eqb}
use Rattle.std.specs.Prelude.{count_by}
use Rattle.std.proofs.lemmas.List.{take_all}
use Rattle.links.proofs.Counts.{count_cells}
use Rattle.slot_arena.specs.Arena.{USED}
use Rattle.slot_arena.proofs.count_used.Goals as goal

pub returns : goal.returns
returns c =
    let arena = c.args.arena.now in
    c.loop-link.invariant
    ∙ ap (count_by (λ w. eqb w USED)) (take_all c.loop-link.link-index arena (omega arith))
    ∙ count_cells (λ w. eqb w USED) arena
