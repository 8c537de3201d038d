-- The operation names the call of its arm; where it names none, it is BAD.
use Rattle.std.proofs.Common.{rules, ℕ, refl}
use mathlib.Core.Option.{none}
use Rattle.drive_buckets.specs.Operations.{query_call}
use Rattle.drive_buckets.proofs.Driving.{made, sent, no_query}
use Rattle.drive_buckets.proofs.cases.asks.Goals as goal

pub returns-in-6 : goal.returns-in-6
returns-in-6 c = made _ _ _ _ _ (λ (m : ℕ). query_call m c.args.a) _ 6 _ refl c.in-6.is _ c.tell.ensures c.peek_min.ensures

pub returns-in-7 : goal.returns-in-7
returns-in-7 c = made _ _ _ _ _ (λ (m : ℕ). query_call m c.args.a) _ 7 _ refl c.in-7.is _ c.tell-in-7.ensures c.min_freq.ensures

pub returns-in-8 : goal.returns-in-8
returns-in-8 c = made _ _ _ _ _ (λ (m : ℕ). query_call m c.args.a) _ 8 _ refl c.in-8.is _ c.tell-in-8.ensures c.frequency.ensures

pub returns-in-9 : goal.returns-in-9
returns-in-9 c = made _ _ _ _ _ (λ (m : ℕ). query_call m c.args.a) _ 9 _ refl c.in-9.is _ c.tell-in-9.ensures c.entry_epoch.ensures

pub returns-in-11 : goal.returns-in-11
returns-in-11 c = made _ _ _ _ _ (λ (m : ℕ). query_call m c.args.a) _ 11 _ refl c.in-11.is _ c.tell-in-11.ensures c.current_epoch.ensures

pub returns-in-14 : goal.returns-in-14
returns-in-14 c = made _ _ _ _ _ (λ (m : ℕ). query_call m c.args.a) _ 14 _ refl c.in-14.is _ c.tell-in-14.ensures c.len.ensures

pub returns-in-15 : goal.returns-in-15
returns-in-15 c = made _ _ _ _ _ (λ (m : ℕ). query_call m c.args.a) _ 15 _ refl c.in-15.is _ c.tell-in-15.ensures c.is_empty.ensures

pub returns-in-16 : goal.returns-in-16
returns-in-16 c = made _ _ _ _ _ (λ (m : ℕ). query_call m c.args.a) _ 16 _ refl c.in-16.is _ c.tell-in-16.ensures c.contains.ensures

pub returns-in-24 : goal.returns-in-24
returns-in-24 c = made _ _ _ _ _ (λ (m : ℕ). query_call m c.args.a) _ 24 _ refl c.in-24.is _ c.tell-in-24.ensures c.bucket_len.ensures

pub returns-in-25 : goal.returns-in-25
returns-in-25 c = made _ _ _ _ _ (λ (m : ℕ). query_call m c.args.a) _ 25 _ refl c.in-25.is _ c.tell-in-25.ensures c.len_up_to.ensures

pub returns-in_default : goal.returns-in_default
returns-in_default c = sent _ _ _ _ _ _ none (search (rules, no_query)) (refl, refl, refl)
