-- The law of a walk of one class, with the slots met so far, how many they are, and the last of them.
use native.Mathlib.Omega.{arith}
use mathlib.Core.Path.{refl, sym, ◌∙◌}
use mathlib.Core.List.{[], ◌∷◌, ◌++◌}
use lib.ListN.{length-append}
use borrow.Author.Tests.{ltb-true}
use Rattle.numbers.specs.Marks.{NONE}
use Rattle.lists.proofs.Tests.{neither}
use Rattle.lists.proofs.Members.{final_append}
use Rattle.key_index.proofs.Check.{meet_more, meet_follows, meet_listed, meet_fault}
use Rattle.key_index.proofs.count_class.Goals as goal
use Rattle.key_index.proofs.count_class.Goals.{then-loop-at-test+else-steps-capacity, else-loop-at-test}

pub returns-then-not-follows : goal.returns-then-not-follows
returns-then-not-follows c =
    let inv = c.loop-at.invariant in
    let us = inv.2.0 in
    let pre = c.requires in
    λ ss k.
    neither _ (c.follows.ensures.1 (rw (sym inv.2.2) (meet_follows _ _ _ us _ pre.0 inv.2.3 c.loop-at-test.true ss k))) c.if-not-follows.true

pub loop-at-preserved : goal.loop-at-preserved
loop-at-preserved c =
    let inv = c.loop-at.invariant in
    let at = c.loop-at.at in
    let us = inv.2.0 in
    let pre = c.requires in (
      refl,
      omega (arith, ltb-true),
      (
        us ++ at ∷ [],
        length-append us (at ∷ []) ∙ omega (arith, inv.2.1),
        final_append NONE us (at ∷ []),
        meet_more _ _ _ us at pre.0 inv.2.3 c.loop-at-test.true (rw inv.2.2 (c.follows.ensures.0 c.if-not-follows.false)),
      ),
    )

pub returns-then-at-eq-NONE : goal.returns-then-at-eq-NONE
returns-then-at-eq-NONE c =
    let inv = c.loop-at.invariant in
    let pre = c.requires in
    (inv.2.0, meet_listed _ _ _ inv.2.0 _ pre.0 inv.2.3 c.if-at-eq-NONE.true, inv.2.1)

pub returns-else-at-eq-NONE : goal.returns-else-at-eq-NONE
returns-else-at-eq-NONE c =
    let inv = c.loop-at.invariant in
    let pre = c.requires in
    meet_fault _ _ _ inv.2.0 _ pre.0 inv.2.3
    (λ b.
    elim c.loop-at-test.branch [
      | then-loop-at-test+else-steps-capacity w ↦ omega (arith, inv.2.1)
      | else-loop-at-test w ↦ omega (arith, inv.2.1)
    ])
    c.if-at-eq-NONE.false
