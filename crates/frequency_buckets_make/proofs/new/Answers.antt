-- The lengths first; then the tables are made, or nothing is.
use Rattle.std.proofs.Common.{rules}
use Rattle.promise.proofs.Makings.{fits_done, made_done, made_refused}
use Rattle.buckets_tables.specs.Lent.{buckets}
use Rattle.buckets_tables.proofs.Clearing.{sized_fitting}
use Rattle.frequency_buckets_make.proofs.new.Goals as goal

pub make-requires : goal.make-requires
make-requires c =
    let fits = fits_done buckets _ _ _ c.measure.ensures _ c.in_ok-measure.was in sized_fitting _ _ fits.0 fits.1

pub returns-clause-does : goal.returns-clause-does
returns-clause-does c =
    let fits = fits_done buckets _ _ _ c.measure.ensures _ c.in_ok-measure.was in
    made_done buckets _ _ _ c.measure.ensures _ _ _ _ c.in_ok-measure.was (c.make.ensures.does _ fits.1.buckets_size)

pub returns-in_err-measure-clause-does : goal.returns-in_err-measure-clause-does
returns-in_err-measure-clause-does c = made_refused buckets _ _ _ c.measure.ensures _ _ _ c.in_err-measure.was (search rules)
