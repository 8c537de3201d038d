-- No level is below the first frequency, so the slot enters above no record.
use Rattle.levels.proofs.Calls as laws
use Rattle.levels.proofs.sound.bind.Goals as goal

pub enter-requires : goal.enter-requires
enter-requires c = laws.bind_ready _ _ _ c.requires

pub returns-clause-does : goal.returns-clause-does
returns-clause-does c = laws.binds _ _ _ c.requires _ _ c.enter.ensures.does
