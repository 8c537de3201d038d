-- Each arm is the call of its number; the last one asks.
use Rattle.std.proofs.Common.{rules}
use Rattle.ledger.specs.History.{Get, Remove, Reset, Evict}
use Rattle.drive_cache.proofs.Driving.{called, bound, guests_shown, levels_shown, acted, acted_else}
use Rattle.drive_cache.proofs.act.Goals as goal

pub returns-in-40-clause-does : goal.returns-in-40-clause-does
returns-in-40-clause-does c =
    acted _ _ _ _ _ _ 40 c.in-40.is _ _ (bound _ _ _ _ _ _ _ _ c.tell_insertion.ensures c.insert.ensures.does)

pub returns-in-41-clause-does : goal.returns-in-41-clause-does
returns-in-41-clause-does c =
    acted _ _ _ _ _ _ 41 c.in-41.is _ _ (guests_shown _ _ _ _ _ _ _ _ _ _ c.shown.ensures _ _ (called _ _ _ _ _ (Get _) _ c.tell.ensures c.get.ensures.does))

pub returns-in-43-clause-does : goal.returns-in-43-clause-does
returns-in-43-clause-does c =
    acted _ _ _ _ _ _ 43 c.in-43.is _ _ (called _ _ _ _ _ (Remove _) _ c.tell-in-43.ensures c.remove.ensures.does)

pub returns-in-44-clause-does : goal.returns-in-44-clause-does
returns-in-44-clause-does c = acted _ _ _ _ _ _ 44 c.in-44.is _ _ c.clears.ensures.does

pub returns-in-46-clause-does : goal.returns-in-46-clause-does
returns-in-46-clause-does c =
    acted _ _ _ _ _ _ 46 c.in-46.is _ _ (called _ _ _ _ _ Evict _ c.tell-in-46.ensures c.evict_min_freq.ensures.does)

pub returns-in-47-clause-does : goal.returns-in-47-clause-does
returns-in-47-clause-does c =
    acted _ _ _ _ _ _ 47 c.in-47.is _ _ (guests_shown _ _ _ _ _ _ _ _ _ _ c.shown-in-47.ensures _ _ (called _ _ _ _ _ (Reset _) _ c.tell-in-47.ensures c.reset_frequency.ensures.does))

pub returns-in_default-clause-does : goal.returns-in_default-clause-does
returns-in_default-clause-does c =
    let asked = guests_shown _ _ _ _ _ _ _ _ _ _ c.shown-in_default.ensures _ _ (levels_shown _ _ _ _ _ _ _ _ _ _ c.shown-in_default-2.ensures _ c.asks.ensures) in
    search (rules, acted_else)
