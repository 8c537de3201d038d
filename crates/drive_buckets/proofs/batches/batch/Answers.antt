-- The operation names the call of its arm; where it names none, it is BAD.
use Rattle.std.proofs.Common.{rules, ℕ, refl}
use mathlib.Core.Option.{none}
use Rattle.drive_buckets.specs.Operations.{batch_call}
use Rattle.drive_buckets.proofs.Driving.{made, sent, guests_shown, no_batch}
use Rattle.drive_buckets.proofs.batches.batch.Goals as goal

pub returns-in-60-clause-does : goal.returns-in-60-clause-does
returns-in-60-clause-does c = made _ _ _ _ _ (λ (m : ℕ). batch_call m c.args.items.now) _ 60 _ refl c.in-60.is _ c.tell.ensures c.insert_batch.ensures.does

pub returns-in-61-clause-does : goal.returns-in-61-clause-does
returns-in-61-clause-does c = guests_shown _ _ _ _ _ _ _ _ c.shown.ensures _ _ (made _ _ _ _ _ (λ (m : ℕ). batch_call m c.args.items.now) _ 61 _ refl c.in-61.is _ c.tell-in-61.ensures c.touch_batch.ensures.does)

pub returns-in-62-clause-does : goal.returns-in-62-clause-does
returns-in-62-clause-does c = made _ _ _ _ _ (λ (m : ℕ). batch_call m c.args.items.now) _ 62 _ refl c.in-62.is _ c.tell-in-62.ensures c.remove_batch.ensures.does

pub returns-in_default-clause-does : goal.returns-in_default-clause-does
returns-in_default-clause-does c = sent _ _ _ _ _ _ none (search (rules, no_batch)) (refl, refl, refl)
