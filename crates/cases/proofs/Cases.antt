-- All twelve cases of document 01 pass: running the table gives the table. Carried by computation alone.
use mathlib.Core.Path.{◌≡◌, refl}
use mathlib.Core.List.{map}
use Rattle.ledger.specs.Buckets.{insert, touch, remove, pop_min, current_epoch, set_epoch, advance_epoch}
use Rattle.ledger.specs.Regroup.{decay_halve_times, decay_halve, rebase_min_freq}
use Rattle.ledger.specs.BucketCalls.{asks, calls}
use Rattle.ledger.specs.Cache.{cache_insert, cache_get, cache_peek_lfu, cache_len}
use Rattle.ledger.specs.History.{does}
use Rattle.trace.specs.Lines.{decimal, tells, step}
use Rattle.trace.specs.Output.{ended, reads, runs, header_of, output}
use Rattle.cases.specs.Cases.{run, cases}

pub twelve_cases : map run cases ≡ cases
unfolding asks calls insert touch remove pop_min current_epoch set_epoch advance_epoch decay_halve_times decay_halve rebase_min_freq output header_of runs reads ended step tells decimal does cache_insert cache_get cache_peek_lfu cache_len
twelve_cases = refl
