-- A refusal, or the ledger's list behind DONE.
use mathlib.Core.Path.{sym, ap, ◌∙◌}
use native.Mathlib.Omega.{arith}
use Rattle.answers.specs.Replies.{reached_reply}
use Rattle.drive_walk.proofs.Walking.{refuses, found, printed}
use Rattle.drive_walk.proofs.sound.walk.Goals as goal

pub returns-in-Err : goal.returns-in-Err
returns-in-Err c =
    refuses _ _ _ _ _ (ap reached_reply (sym c.reached.ensures ∙ c.in-Err.is)) _ _ _ _ c.first-first.ensures c.write.ensures

pub items-end-requires : goal.items-end-requires
items-end-requires c =
    let w = found _ _ _ _ _ _ _ _ _ _ _ _ c.first-first.ensures _ c.reached.ensures c.in_default.not-Err in (w.listable, w.placed, omega (arith, w.limited, c.number-next.ensures.short, c.number-next.auto.out, c.requires))

pub put-requires : goal.put-requires
put-requires c =
    let w = found _ _ _ _ _ _ _ _ _ _ _ _ c.first-first.ensures _ c.reached.ensures c.in_default.not-Err in omega (arith, w.limited, c.items-end.ensures.room, c.number-next.ensures.short, c.number-next.auto.out, c.items-end.auto.out, c.requires)

pub returns : goal.returns
returns c =
    let w = found _ _ _ _ _ _ _ _ _ _ _ _ c.first-first.ensures _ c.reached.ensures c.in_default.not-Err in printed _ _ _ _ _ _ _ _ _ _ _ _ w _ _ _ _ _ _ _ _ c.number-next.ensures c.items-end.ensures c.put.ensures
