-- The sizes, the records, the marks, and the walk that meets as many slots as are not marked free.
use Rattle.lists.proofs.Tests.{says_no, said_no}
use Rattle.levels.proofs.Checks as laws
use Rattle.levels.proofs.is_sound.Goals as goal
use Rattle.levels.proofs.is_sound.Goals.{then-not-is_sound-via-then-not-is_sound, then-not-is_sound-via-else-not-is_sound+then-not-is_clean}

pub returns-then-not-is_sound : goal.returns-then-not-is_sound
returns-then-not-is_sound c =
    says_no _
    (λ k.
    elim c.then-not-is_sound.branch [
      | then-not-is_sound-via-then-not-is_sound w ↦ said_no _ c.is_sound.ensures w.if-not-is_sound.true (_, k.1.rep.records)
      | then-not-is_sound-via-else-not-is_sound+then-not-is_clean w ↦ said_no _ w.is_clean.ensures w.if-not-is_clean.true (laws.held_clean _ _ k)
    ])

pub returns : goal.returns
returns c =
    (c.walk_levels.ensures.good _ c.count_bound.ensures (c.is_clean.ensures.0 c.if-not-is_clean.false) (c.is_sound.ensures.0 c.if-not-is_sound.false) c.if-spares-capacity.false, c.walk_levels.ensures.all _ c.count_bound.ensures)
