-- Keys and epochs are wiped, there is no list, the index is empty and all slots are free: `made` says that the tables hold a new ledger then.
use Rattle.buckets_tables.proofs.Clearing.{fitting_even, fitting_arena, made}
use Rattle.buckets_tables.proofs.sound.make.Goals as goal

pub reset-buckets-requires : goal.reset-buckets-requires
reset-buckets-requires c = fitting_even _ _ _ _ _ _ _ c.requires

pub fill-free-requires : goal.fill-free-requires
fill-free-requires c = fitting_arena _ _ _ _ _ _ _ c.requires

pub returns-clause-does : goal.returns-clause-does
returns-clause-does c =
    let lists = c.reset-buckets in
    let wiped-keys = c.wipe in
    let wiped-epochs = c.wipe-2 in
    made _ _ _ _ _ _ _ c.requires _ _ _ _ _ _ _ _ wiped-keys.ensures wiped-epochs.ensures lists.ensures c.clear.ensures c.fill-free.ensures
    lists.auto.freqs lists.auto.prevs lists.auto.nexts lists.auto.spares
