-- The records are carried out, and the last line stands behind theirs.
use native.Mathlib.Omega.{arith}
use Rattle.trace_input.proofs.Parts.{part_prints}
use Rattle.trace_input.proofs.sound.part.Goals as goal

pub returns-clause-does : goal.returns-clause-does
returns-clause-does c =
    let w = c.requires in part_prints _ _ _ _ w.1 _ _ _ _ c.feed-fed.ensures.does _ _ c.close.ensures (omega (arith, w.2, c.close.auto.out, c.feed-fed.auto.out))
