-- The slot leaves its list and is marked free; then a slot is left, or the record goes.
use mathlib.Core.Path.{refl}
use Rattle.links.proofs.Lists.{fits_still}
use Rattle.levels.proofs.Leave as laws
use Rattle.levels.proofs.sound.leave.Goals as goal

pub ends-ends-requires : goal.ends-ends-requires
ends-ends-requires c = laws.bound_record_in _ _ _ c.requires.bound _ c.requires.number

pub unlink-rest-requires : goal.unlink-rest-requires
unlink-rest-requires c = (laws.bound_fits _ _ _ c.requires.bound).0

pub free-requires : goal.free-requires
free-requires c =
    (fits_still _ _ (laws.bound_fits _ _ _ c.requires.bound).0 _ c.unlink-rest.ensures, (laws.bound_fits _ _ _ c.requires.bound).1)

pub set_ends-requires : goal.set_ends-requires
set_ends-requires c = laws.bound_record_in _ _ _ c.requires.bound _ c.requires.number

pub returns-then-rest-ne-NONE-clause-does : goal.returns-then-rest-ne-NONE-clause-does
returns-then-rest-ne-NONE-clause-does c =
    laws.leaves_some _ _ _ _ _ _ _ _ c.requires.number _ c.ends-ends.ensures _ _ _ c.unlink-rest.ensures _ _ _ c.free.ensures c.if-rest-ne-NONE.true _ c.set_ends.ensures

pub below-at-requires : goal.below-at-requires
below-at-requires c = laws.bound_record_in _ _ _ c.requires.bound _ c.requires.number

pub remove-requires : goal.remove-requires
remove-requires c = laws.bound_dropping _ _ _ c.requires.bound _ c.requires.number _ refl

pub returns-clause-does : goal.returns-clause-does
returns-clause-does c =
    laws.leaves_none _ _ _ _ _ _ _ _ c.requires.number _ c.ends-ends.ensures _ _ _ c.unlink-rest.ensures _ _ _ c.free.ensures c.if-rest-ne-NONE.false _ c.below-at.ensures _ _ _ c.remove.ensures
