-- Each arm is the batch of its number.
use Rattle.std.proofs.Common.{rules}
use Rattle.drive_cache.proofs.Driving.{batched, all_inserted, guests_shown, acted_all, acted_inserts, acted_none}
use Rattle.drive_cache.proofs.batch.Goals as goal

pub returns-in-63-clause-does : goal.returns-in-63-clause-does
returns-in-63-clause-does c =
    acted_inserts _ _ _ _ _ _ _ _ c.in-63.is (all_inserted _ _ _ _ _ _ _ _ c.tell.ensures c.insert_batch.ensures.does)

pub returns-in-64-clause-does : goal.returns-in-64-clause-does
returns-in-64-clause-does c =
    acted_all _ _ _ _ _ _ 64 c.in-64.is c.args.items.now c.args.given.now (batched _ _ _ _ _ _ _ c.tell-in-64.ensures c.remove_batch.ensures.does)

pub returns-in-65-clause-does : goal.returns-in-65-clause-does
returns-in-65-clause-does c =
    acted_all _ _ _ _ _ _ 65 c.in-65.is c.args.items.now c.args.given.now (guests_shown _ _ _ _ _ _ _ _ _ _ c.shown.ensures _ _ (batched _ _ _ _ _ _ _ c.tell-in-65.ensures c.touch_batch.ensures.does))

pub returns-in_default-clause-does : goal.returns-in_default-clause-does
returns-in_default-clause-does c = search (rules, acted_none)
