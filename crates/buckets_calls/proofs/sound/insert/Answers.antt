-- PRESENT and FULL leave all; else the key is bound in the first free slot.
use Rattle.std.proofs.Common.{sym}
use Rattle.buckets_tables.proofs.Doing as doing
use Rattle.buckets_calls.proofs.Searched.{somewhere, nowhere}
use Rattle.buckets_calls.proofs.sound.insert.Goals as goal

pub returns-then-is_some-clause-does : goal.returns-then-is_some-clause-does
returns-then-is_some-clause-does c =
    let at = somewhere _ _ _ c.find.result c.find.ensures (sym c.if-is_some.ensures) in doing.insert_present _ _ _ at.0 at.1

pub returns-then-state-eq-NONE-clause-does : goal.returns-then-state-eq-NONE-clause-does
returns-then-state-eq-NONE-clause-does c =
    doing.insert_full_lem _ _ _ (nowhere _ _ _ c.find.result c.find.ensures (sym c.if-is_some.ensures)) c.if-state-eq-NONE.true

pub bind-requires : goal.bind-requires
bind-requires c =
    doing.insert_room _ _ _ (nowhere _ _ _ c.find.result c.find.ensures (sym c.if-is_some.ensures)) c.requires c.if-state-eq-NONE.false

pub returns-clause-does : goal.returns-clause-does
returns-clause-does c =
    doing.insert_done _ _ _ (nowhere _ _ _ c.find.result c.find.ensures (sym c.if-is_some.ensures)) c.if-state-eq-NONE.false _ _ _ c.bind.ensures.does
