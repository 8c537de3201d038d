-- Letting go frees the slot that binding then takes.
use Rattle.cache_tables.proofs.Replacing as replacing
use Rattle.cache_tables.proofs.sound.replace.Goals as goal

pub let_go-requires : goal.let_go-requires
let_go-requires c = replacing.replace_bound _ _ _ _ c.requires

pub bind-requires : goal.bind-requires
bind-requires c = replacing.replace_room _ _ _ _ _ _ c.let_go.ensures.does c.requires

pub returns-clause-does : goal.returns-clause-does
returns-clause-does c = replacing.replaced _ _ _ _ _ _ c.let_go.ensures.does _ _ _ c.bind.ensures.does
