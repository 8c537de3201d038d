-- A walk, or what is told of another operation.
use native.Mathlib.Omega.{arith}
use Rattle.buckets_tables.specs.Slices.{joined}
use Rattle.drive_record.proofs.Stepping.{stepped_shown, stepped_told}
use Rattle.drive_record.proofs.sound.step.Goals as goal

pub walk-requires : goal.walk-requires
walk-requires c = c.requires.1

pub returns-then-code-eq20-clause-does : goal.returns-then-code-eq20-clause-does
returns-then-code-eq20-clause-does c = stepped_shown _ _ c.args.b _ _ _ _ _ _ c.if-code-eq20.true _ (λ i. joined (c.shown.ensures i) c.args.epochs.now (c.shown-then-code-eq20.ensures i)) c.walk.ensures

pub act-told-requires : goal.act-told-requires
act-told-requires c = c.requires.0

pub write-requires : goal.write-requires
write-requires c = let room = c.requires.1 in omega arith

pub returns-clause-does : goal.returns-clause-does
returns-clause-does c = stepped_told _ _ _ _ _ _ _ _ _ c.if-code-eq20.false _ _ _ c.act-told.ensures.does c.write.ensures
