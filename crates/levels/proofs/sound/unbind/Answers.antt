-- The slot leaves.
use Rattle.levels.proofs.Calls as laws
use Rattle.levels.proofs.Leave as leave
use Rattle.levels.proofs.sound.unbind.Goals as goal

pub owner-number-requires : goal.owner-number-requires
owner-number-requires c = leave.bound_slot_in _ _ _ c.requires

pub returns-clause-does : goal.returns-clause-does
returns-clause-does c = laws.unbinds _ _ _ _ _ _ c.leave.ensures.does
