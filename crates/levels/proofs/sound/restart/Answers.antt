-- The slot leaves its level, and is bound as a free one is.
use Rattle.levels.proofs.Calls as laws
use Rattle.levels.proofs.Leave as leave
use Rattle.levels.proofs.sound.restart.Goals as goal

pub owner-number-requires : goal.owner-number-requires
owner-number-requires c = leave.bound_slot_in _ _ _ c.requires

pub bind-requires : goal.bind-requires
bind-requires c = laws.restart_ready _ _ _ _ _ _ c.leave.ensures.does c.requires

pub returns-clause-does : goal.returns-clause-does
returns-clause-does c = laws.restarts _ _ _ _ _ _ c.leave.ensures.does _ _ c.bind.ensures.does
