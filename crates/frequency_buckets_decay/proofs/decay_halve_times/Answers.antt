-- Checked, then done on sound tables; or refused by the check, with nothing changed.
use Rattle.std.proofs.Common.{rules}
use Rattle.ledger.specs.BucketCalls.{calls, DecayHalveTimes}
use Rattle.buckets_tables.specs.Slices.{shown_guests}
use Rattle.buckets_tables.proofs.Public as public
use Rattle.frequency_buckets_decay.proofs.decay_halve_times.Goals as goal

pub decay_halve_times-requires : goal.decay_halve_times-requires
decay_halve_times-requires c = ((shown_guests c.args.guests.now, c.args.epochs.now), public.checked _ _ _ c.check.ensures _ c.in_ok-check.was)

pub returns-clause-does : goal.returns-clause-does
unfolding calls
returns-clause-does c = public.makes _ _ _ c.check.ensures (DecayHalveTimes _) _ _ _ _ c.in_ok-check.was (c.decay_halve_times.ensures.does (shown_guests c.args.guests.now, c.args.epochs.now))

pub returns-in_err-check-clause-does : goal.returns-in_err-check-clause-does
returns-in_err-check-clause-does c = public.refuses _ _ _ c.check.ensures _ _ _ c.in_err-check.was (search rules)
