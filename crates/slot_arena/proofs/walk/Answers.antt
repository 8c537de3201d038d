-- The law of a walk of a chain, with the slots passed so far, how many they are, and the last of them.
use native.Mathlib.Omega.{arith}
use mathlib.Core.Path.{refl, ◌∙◌}
use mathlib.Core.List.{[], ◌∷◌, ◌++◌}
use lib.ListN.{length-append}
use borrow.Author.Tests.{ltb-false, ltb-true}
use Rattle.numbers.specs.Marks.{NONE}
use Rattle.lists.proofs.Members.{final_append}
use Rattle.links.proofs.Chains.{walk_more, walk_done}
use Rattle.slot_arena.proofs.walk.Goals as goal

pub loop-at-preserved : goal.loop-at-preserved
loop-at-preserved c =
    let w = c.loop-at.invariant.2 in
    let at = c.loop-at.at in (
      refl,
      omega (arith, ltb-true),
      (w.0 ++ at ∷ [], length-append w.0 (at ∷ []) ∙ omega (arith, w.1), final_append NONE w.0 (at ∷ []), walk_more _ _ (omega arith) _ w.0 at (omega arith) w.3),
    )

pub returns-else-steps-capacity : goal.returns-else-steps-capacity
returns-else-steps-capacity c =
    let w = c.loop-at.invariant.2 in
    record { passed = w.0; many = w.1; final_one = w.2; walked = walk_done _ _ (omega arith) _ w.0 _ (λ b. omega (arith, ltb-false, w.1)) w.3 }

pub returns-after-loop-at : goal.returns-after-loop-at
returns-after-loop-at c =
    let w = c.loop-at.invariant.2 in
    record { passed = w.0; many = w.1; final_one = w.2; walked = walk_done _ _ (omega arith) _ w.0 _ (λ b. omega arith) w.3 }
