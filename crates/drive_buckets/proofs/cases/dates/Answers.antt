-- The operation names the call of its arm; where it names none of them, it only answers, or it is BAD.
use Rattle.std.proofs.Common.{rules, ℕ, refl}
use Rattle.drive_buckets.specs.Operations.{epoch_call}
use Rattle.drive_buckets.proofs.Driving.{made, sent, no_epoch}
use Rattle.drive_buckets.proofs.cases.dates.Goals as goal

pub returns-in-10 : goal.returns-in-10
returns-in-10 c = made _ _ _ _ _ (λ (m : ℕ). epoch_call m c.args.a c.args.b) _ 10 _ refl c.in-10.is _ c.tell.ensures c.set_entry_epoch.ensures

pub returns-in-12 : goal.returns-in-12
returns-in-12 c = made _ _ _ _ _ (λ (m : ℕ). epoch_call m c.args.a c.args.b) _ 12 _ refl c.in-12.is _ c.tell-in-12.ensures c.set_epoch.ensures

pub returns-in-13 : goal.returns-in-13
returns-in-13 c = made _ _ _ _ _ (λ (m : ℕ). epoch_call m c.args.a c.args.b) _ 13 _ refl c.in-13.is _ c.tell-in-13.ensures c.advance_epoch.ensures

pub returns-in_default : goal.returns-in_default
returns-in_default c = sent _ _ _ _ _ _ _ (search (rules, no_epoch)) c.asks.ensures
