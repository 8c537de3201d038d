-- A bound key is let go from where the index finds it; its frequency is read before.
use Rattle.std.proofs.Common.{refl}
use Rattle.buckets_tables.proofs.Asked as asked
use Rattle.buckets_tables.proofs.Doing as doing
use Rattle.buckets_calls.proofs.sound.remove.Goals as goal

pub bounds-levels-slot : goal.bounds-levels-slot
bounds-levels-slot c =
    (asked.slot_sized _ _ _ (doing.found_bound _ _ _ _ c.requires c.in-Some.ensures)).3

pub let_go-requires : goal.let_go-requires
let_go-requires c = doing.found_bound _ _ _ _ c.requires c.in-Some.ensures

pub returns-in-Some-clause-does : goal.returns-in-Some-clause-does
returns-in-Some-clause-does c = doing.remove_done _ _ _ _ _ c.in-Some.ensures refl _ _ c.let_go.ensures.does

pub returns-in-None-clause-does : goal.returns-in-None-clause-does
returns-in-None-clause-does c = doing.remove_absent _ _ _ c.in-None.ensures
