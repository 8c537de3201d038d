-- The operation is clearing, or it is sent on.
use Rattle.std.proofs.Common.{rules, ℕ, refl}
use Rattle.drive_buckets.specs.Operations.{whole_call}
use Rattle.drive_buckets.proofs.Driving.{cleared, sent, guests_shown, not_whole}
use Rattle.drive_buckets.proofs.cases.whole.Goals as goal

pub returns-in-19-clause-does : goal.returns-in-19-clause-does
returns-in-19-clause-does c = cleared _ _ _ _ _ (λ (m : ℕ). whole_call m c.args.a c.args.b) _ 19 _ refl c.in-19.is c.clears.ensures.does

pub returns-in_default-clause-does : goal.returns-in_default-clause-does
returns-in_default-clause-does c = sent _ _ _ _ _ _ _ (search (rules, not_whole)) (guests_shown _ _ _ _ _ _ _ _ c.shown.ensures _ _ c.decays.ensures.does)
