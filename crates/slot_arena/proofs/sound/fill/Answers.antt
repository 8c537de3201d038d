-- The law of filling, where there is a first slot.
use native.Mathlib.Omega.{arith}
use mathlib.Core.Path.{refl}
use Rattle.slot_arena.proofs.Steps.{filled}
use Rattle.slot_arena.proofs.sound.fill.Goals as goal

pub returns : goal.returns
returns c =
    filled _ _ _ c.requires c.loop-i.auto.arena (λ k l. c.loop-i.invariant k (omega arith)) (λ b. (refl, refl)) (λ b. absurd (omega arith))
