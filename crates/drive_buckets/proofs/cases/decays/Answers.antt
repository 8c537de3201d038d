-- The operation names the call of its arm; where it names none of them, it changes epochs at most, or it is BAD.
use Rattle.std.proofs.Common.{rules, ℕ, refl}
use Rattle.drive_buckets.specs.Operations.{decay_call}
use Rattle.drive_buckets.proofs.Driving.{made, sent, levels_shown, no_decay}
use Rattle.drive_buckets.proofs.cases.decays.Goals as goal

pub returns-in-17-clause-does : goal.returns-in-17-clause-does
returns-in-17-clause-does c = made _ _ _ _ _ (λ (m : ℕ). decay_call m c.args.a c.args.b) _ 17 _ refl c.in-17.is _ c.tell.ensures c.decay_halve.ensures.does

pub returns-in-18-clause-does : goal.returns-in-18-clause-does
returns-in-18-clause-does c = made _ _ _ _ _ (λ (m : ℕ). decay_call m c.args.a c.args.b) _ 18 _ refl c.in-18.is _ c.tell-in-18.ensures c.rebase_min_freq.ensures.does

pub returns-in-22-clause-does : goal.returns-in-22-clause-does
returns-in-22-clause-does c = made _ _ _ _ _ (λ (m : ℕ). decay_call m c.args.a c.args.b) _ 22 _ refl c.in-22.is _ c.tell-in-22.ensures c.decay_halve_times.ensures.does

pub returns-in_default-clause-does : goal.returns-in_default-clause-does
returns-in_default-clause-does c = sent _ _ _ _ _ _ _ (search (rules, no_decay)) (levels_shown _ _ _ _ _ _ _ _ c.shown.ensures _ c.dates.ensures)
