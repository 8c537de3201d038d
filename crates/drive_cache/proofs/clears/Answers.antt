-- The call's own promise.
use Rattle.ledger.specs.History.{Clear}
use Rattle.drive_cache.proofs.Driving.{called}
use Rattle.drive_cache.proofs.clears.Goals as goal

pub returns-clause-does : goal.returns-clause-does
returns-clause-does c = called _ _ _ _ _ Clear _ c.tell.ensures c.clear.ensures.does
