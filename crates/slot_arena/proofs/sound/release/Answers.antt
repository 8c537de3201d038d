-- The law of releasing; the two ways out differ in whether a slot was free.
use Rattle.slot_arena.proofs.Steps.{released_alone, released_behind}
use Rattle.slot_arena.proofs.sound.release.Goals as goal

pub returns-then-last-arena : goal.returns-then-last-arena
returns-then-last-arena c = released_behind _ _ _ c.if-last-arena.true

pub returns : goal.returns
returns c = released_alone _ _ _ c.if-last-arena.false
