-- The lists are regrouped, and the lowest frequency is read again.
use Rattle.buckets_tables.proofs.Asked.{as_long}
use Rattle.buckets_regroup.proofs.Changes.{changed_lowers}
use Rattle.buckets_regroup.proofs.Regrouping.{some_lists, lists_after, regroup_does}
use Rattle.buckets_regroup.proofs.sound.regrouped.Goals as goal

pub regroup-requires : goal.regroup-requires
regroup-requires c = some_lists _ _ c.requires

pub lowest_frequency-lowest-requires : goal.lowest_frequency-lowest-requires
lowest_frequency-lowest-requires c = lists_after _ _ _ _ _ c.regroup.ensures.does c.requires

pub returns-clause-does : goal.returns-clause-does
returns-clause-does c =
    regroup_does _ _ _ _ _ c.regroup.ensures.does (changed_lowers c.args.change) (as_long _ _ c.regroup.ensures.same)
    _ c.lowest_frequency-lowest.ensures _ c.recount.ensures
