-- A bound key's value is replaced where the index finds the key; else the key enters, and its value is stored in the slot that it
-- entered.
use Rattle.std.proofs.Common.{rules}
use Rattle.cache_tables.proofs.Asking as asking
use Rattle.cache_tables.proofs.Cached as cached
use Rattle.cache_tables.proofs.Caching as caching
use Rattle.cache_tables.proofs.Inserting as inserting
use Rattle.cache_inserts.proofs.sound.insert.Goals as goal

pub enter-requires : goal.enter-requires
enter-requires c = record { sound = asking.base_sound _ _ c.requires; missed = caching.missed_key _ _ _ c.in-None.ensures }

pub returns-in-Some-clause-does : goal.returns-in-Some-clause-does
returns-in-Some-clause-does c = inserting.insert_old _ _ _ _ _ _ (caching.sought_key _ _ _ _ c.in-Some.ensures)

pub returns-in_err-slot-in-None-clause-does : goal.returns-in_err-slot-in-None-clause-does
returns-in_err-slot-in-None-clause-does c = cached.cache_told _ _ _ _ _ _ _ (search rules) (c.in_err-slot-in-None.ensures.does _ _)
