-- The slots gathered so far are those of the classes below c.
use native.Mathlib.Omega.{arith}
use mathlib.Core.Path.{sym, ◌∙◌, subst}
use mathlib.Core.List.{◌++◌}
use lib.ListN.{length-append}
use Rattle.key_index.specs.Check.{CountsAll}
use Rattle.key_index.proofs.Check.{gather_more, listed_length}
use Rattle.key_index.proofs.count_classes.Goals as goal

pub returns-in_err-n : goal.returns-in_err-n
returns-in_err-n c =
    subst (CountsAll c.args.index.now c.args.keys.now) (sym c.from_residual.ensures)
    (λ sound.
    let r = sound.chains c.loop-c.c c.loop-c-test.true in
    c.in_err-n.ensures r.0 r.1)

pub overflow_add-n : goal.overflow_add-n
overflow_add-n c = let r = c.in_ok-n.ensures in omega (arith, r.2, listed_length _ _ _ r.0 c.requires.0 r.1, c.requires.0)

pub loop-c-preserved : goal.loop-c-preserved
loop-c-preserved c =
    let r = c.in_ok-n.ensures in
    let inv = c.loop-c.invariant in
    let pre = c.requires in (
      omega (arith, r.2, listed_length _ _ _ r.0 pre.0 r.1, pre.0),
      (inv.1.0 ++ r.0, length-append inv.1.0 r.0 ∙ omega (arith, r.2, inv.1.1), gather_more _ _ _ inv.1.0 r.0 pre.0 inv.1.2 r.1),
    )
