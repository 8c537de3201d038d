-- The key is bound in the first free slot, or displaces another.
use Rattle.std.proofs.Common.{rules}
use Rattle.cache_tables.proofs.Asking as asking
use Rattle.cache_tables.proofs.Inserting as inserting
use Rattle.cache_inserts.proofs.sound.enter.Goals as goal

pub bind-slot-requires : goal.bind-slot-requires
bind-slot-requires c = asking.new_room _ _ _ c.requires.sound c.requires.missed (search rules)

pub returns-clause-does : goal.returns-clause-does
returns-clause-does c =
    λ vs v. inserting.insert_new_lem _ vs _ _ v c.requires.missed (search rules) _ _ _ c.bind-slot.ensures.does
