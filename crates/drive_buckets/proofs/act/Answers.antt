-- The operation names the call of its arm; where it names none of them, it is not about one key, or it is BAD.
use Rattle.std.proofs.Common.{rules, ℕ, refl}
use Rattle.drive_buckets.specs.Operations.{bucket_call}
use Rattle.drive_buckets.proofs.Driving.{made, sent, guests_shown, no_key}
use Rattle.drive_buckets.proofs.act.Goals as goal

pub returns-in-1-clause-does : goal.returns-in-1-clause-does
returns-in-1-clause-does c = made _ _ _ _ _ (λ (m : ℕ). bucket_call m c.args.a c.args.b) _ 1 _ refl c.in-1.is _ c.tell.ensures c.insert.ensures.does

pub returns-in-2-clause-does : goal.returns-in-2-clause-does
returns-in-2-clause-does c = guests_shown _ _ _ _ _ _ _ _ c.shown.ensures _ _ (made _ _ _ _ _ (λ (m : ℕ). bucket_call m c.args.a c.args.b) _ 2 _ refl c.in-2.is _ c.tell-in-2.ensures c.touch.ensures.does)

pub returns-in-3-clause-does : goal.returns-in-3-clause-does
returns-in-3-clause-does c = guests_shown _ _ _ _ _ _ _ _ c.shown-in-3.ensures _ _ (made _ _ _ _ _ (λ (m : ℕ). bucket_call m c.args.a c.args.b) _ 3 _ refl c.in-3.is _ c.tell-in-3.ensures c.touch-in-3.ensures.does)

pub returns-in-4-clause-does : goal.returns-in-4-clause-does
returns-in-4-clause-does c = made _ _ _ _ _ (λ (m : ℕ). bucket_call m c.args.a c.args.b) _ 4 _ refl c.in-4.is _ c.tell-in-4.ensures c.remove.ensures.does

pub returns-in-5-clause-does : goal.returns-in-5-clause-does
returns-in-5-clause-does c = made _ _ _ _ _ (λ (m : ℕ). bucket_call m c.args.a c.args.b) _ 5 _ refl c.in-5.is _ c.tell-in-5.ensures c.pop_min.ensures.does

pub returns-in_default-clause-does : goal.returns-in_default-clause-does
returns-in_default-clause-does c = sent _ _ _ _ _ _ _ (search (rules, no_key)) c.whole.ensures.does
