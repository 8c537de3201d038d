-- Key and epoch are read at the head of the level.
use Rattle.std.proofs.Common.{rules}
use Rattle.buckets_walk.proofs.Walking as laws
use Rattle.buckets_walk.proofs.sound.walk_start.Goals as goal

pub returns-in_default : goal.returns-in_default
returns-in_default c = laws.start_past _ _ _ _ _ c.in_default.ensures

pub offset_bounds-keys-slot : goal.offset_bounds-keys-slot
offset_bounds-keys-slot c = let below = laws.start_below _ _ _ _ _ _ c.in-Some.ensures c.requires in search rules

pub bounds-keys-slot : goal.bounds-keys-slot
bounds-keys-slot c = (laws.start_below _ _ _ _ _ _ c.in-Some.ensures c.requires).1

pub offset_bounds-epochs-slot : goal.offset_bounds-epochs-slot
offset_bounds-epochs-slot c = let below = laws.start_below _ _ _ _ _ _ c.in-Some.ensures c.requires in search rules

pub bounds-epochs-slot : goal.bounds-epochs-slot
bounds-epochs-slot c = (laws.start_below _ _ _ _ _ _ c.in-Some.ensures c.requires).2

pub returns : goal.returns
returns c = laws.start_shown _ _ _ _ _ _ c.in-Some.ensures
