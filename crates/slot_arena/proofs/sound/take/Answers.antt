-- The law of taking; the two ways out differ in the last slot of the order that is left.
use mathlib.Core.Path.{refl}
use Rattle.slot_arena.proofs.Steps.{taken, take_alone, take_last}
use Rattle.slot_arena.proofs.sound.take.Goals as goal

pub returns-then-next-eq-NONE : goal.returns-then-next-eq-NONE
returns-then-next-eq-NONE c = taken _ _ _ _ refl refl (λ s rest h. take_alone _ _ s rest h c.if-next-eq-NONE.true)

pub returns-else-next-eq-NONE : goal.returns-else-next-eq-NONE
returns-else-next-eq-NONE c = taken _ _ _ _ refl refl (λ s rest h. take_last _ _ s rest h c.if-next-eq-NONE.false)
