-- The operation is found by tests on its number, and its promise is that of the call.
use mathlib.Core.Path.{refl}
use native.Mathlib.Omega.{arith}
use Rattle.drive_record.proofs.Acting.{acted_check, acted_store, acted_field, acted_bucket, acted_cache, acted_batch}
use Rattle.drive_record.proofs.sound.act.Goals as goal

pub returns-then-code-eq21-clause-does : goal.returns-then-code-eq21-clause-does
returns-then-code-eq21-clause-does c = acted_check _ _ _ _ _ _ _ _ c.if-code-eq21.true c.check.ensures refl refl

pub returns-then-code-eq30-clause-does : goal.returns-then-code-eq30-clause-does
returns-then-code-eq30-clause-does c = acted_store _ _ _ _ _ _ _ _ c.if-code-eq30.true _ refl c.store.ensures.does refl

pub returns-then-code-eq31-clause-does : goal.returns-then-code-eq31-clause-does
returns-then-code-eq31-clause-does c = acted_field _ _ _ _ _ _ _ _ c.if-code-eq31.true _ refl c.set_field.ensures refl

pub returns-then-code-lt40-clause-does : goal.returns-then-code-lt40-clause-does
returns-then-code-lt40-clause-does c =
    acted_bucket _ _ _ _ _ _ _ _ c.if-code-eq21.false c.if-code-eq30.false c.if-code-eq31.false c.if-code-lt40.true c.act.ensures.does refl

pub returns-then-code-lt60-clause-does : goal.returns-then-code-lt60-clause-does
returns-then-code-lt60-clause-does c =
    let low = c.if-code-lt40.false in acted_cache _ _ _ _ _ _ _ _ c.if-code-eq21.false c.if-code-eq30.false c.if-code-eq31.false (omega arith) c.if-code-lt60.true c.act-then-code-lt60.ensures.does

pub batch-requires : goal.batch-requires
batch-requires c = c.requires

pub returns-clause-does : goal.returns-clause-does
returns-clause-does c =
    let low = c.if-code-lt40.false in let high = c.if-code-lt60.false in acted_batch _ _ _ _ _ _ _ _ c.if-code-eq21.false c.if-code-eq30.false c.if-code-eq31.false (omega arith) (omega arith) c.batch.ensures.does
