-- Checked, then done on sound tables; or refused by the check, with nothing changed.
use Rattle.std.proofs.Common.{rules}
use Rattle.ledger.specs.BucketCalls.{calls, RebaseMinFreq}
use Rattle.buckets_tables.specs.Slices.{shown_guests}
use Rattle.buckets_tables.proofs.Public as public
use Rattle.frequency_buckets_decay.proofs.rebase_min_freq.Goals as goal

pub rebase_min_freq-requires : goal.rebase_min_freq-requires
rebase_min_freq-requires c = ((shown_guests c.args.guests.now, c.args.epochs.now), public.checked _ _ _ c.check.ensures _ c.in_ok-check.was)

pub returns-clause-does : goal.returns-clause-does
unfolding calls
returns-clause-does c = public.makes _ _ _ c.check.ensures RebaseMinFreq _ _ _ _ c.in_ok-check.was (c.rebase_min_freq.ensures.does (shown_guests c.args.guests.now, c.args.epochs.now))

pub returns-in_err-check-clause-does : goal.returns-in_err-check-clause-does
returns-in_err-check-clause-does c = public.refuses _ _ _ c.check.ensures _ _ _ c.in_err-check.was (search rules)
