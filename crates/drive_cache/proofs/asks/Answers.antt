-- Each arm is the query of its number.
use Rattle.std.proofs.Common.{rules}
use mathlib.Core.Path.{refl}
use Rattle.ledger.specs.History.{Peek, PeekLfu, Len}
use Rattle.drive_cache.proofs.Driving.{called, checked, asked, asked_none}
use Rattle.drive_cache.proofs.asks.Goals as goal

pub returns-in-42 : goal.returns-in-42
returns-in-42 c = asked _ _ _ _ _ _ 42 c.in-42.is _ (called _ _ _ _ _ (Peek _) _ c.tell.ensures c.peek.ensures)

pub returns-in-45 : goal.returns-in-45
returns-in-45 c = asked _ _ _ _ _ _ 45 c.in-45.is _ (called _ _ _ _ _ PeekLfu _ c.tell-in-45.ensures c.peek_lfu.ensures)

pub returns-in-48 : goal.returns-in-48
returns-in-48 c = asked _ _ _ _ _ _ 48 c.in-48.is _ (called _ _ _ _ _ Len _ c.tell-in-48.ensures c.len.ensures)

pub returns-in-49 : goal.returns-in-49
returns-in-49 c = asked _ _ _ _ _ _ 49 c.in-49.is _ (checked _ _ _ _ c.tell-in-49.ensures c.check.ensures)

pub returns-in_default : goal.returns-in_default
returns-in_default c = search (rules, asked_none)
