-- A bound key is hit where the index finds it.
use Rattle.std.proofs.Common.{rules}
use Rattle.buckets_tables.proofs.Doing as doing
use Rattle.buckets_calls.proofs.sound.touch.Goals as goal

pub hit-requires : goal.hit-requires
hit-requires c =
    (record { keys = c.args.keys.now; arena = c.requires.0; index = c.args.index.now }, doing.found_bound _ _ _ _ c.requires.1 c.in-Some.ensures)

pub returns-in-Some-clause-does : goal.returns-in-Some-clause-does
returns-in-Some-clause-does c =
    λ a. doing.touch_done (record { keys = c.args.keys.now; arena = a; index = c.args.index.now }) _ _ _ _ _ _ _ c.as_cap.ensures
    (search rules) c.in-Some.ensures _ _ _ _ c.hit.ensures.does

pub returns-in-None-clause-does : goal.returns-in-None-clause-does
returns-in-None-clause-does c = λ a. doing.touch_absent _ _ _ _ c.in-None.ensures
