-- By the slot, and by the level of its record.
use mathlib.Core.Logic.{inl}
use Rattle.lists.proofs.Tests.{said_no}
use Rattle.bucket_table.proofs.Places.{spot_at}
use Rattle.buckets_regroup.proofs.Tops.{place_none, place_below, place_own}
use Rattle.buckets_regroup.proofs.sound.place_above.Goals as goal

pub returns-then-last-eq-NONE : goal.returns-then-last-eq-NONE
returns-then-last-eq-NONE c = place_none c.args.levels.now.buckets.now c.args.last.0 c.args.frequency.0 c.if-last-eq-NONE.true

pub owner-number-requires : goal.owner-number-requires
owner-number-requires c = (c.requires c.if-last-eq-NONE.false).0

pub is_level-requires : goal.is_level-requires
is_level-requires c =
    let r = c.requires c.if-last-eq-NONE.false in spot_at c.args.levels.now.buckets.now _ _ c.owner-number.ensures (inl (r.1, r.2))

pub below-requires : goal.below-requires
below-requires c = rw c.owner-number.ensures (c.requires c.if-last-eq-NONE.false).2

pub returns-then-is_level : goal.returns-then-is_level
returns-then-is_level c =
    place_below c.args.levels.now.buckets.now c.args.last.0 c.args.frequency.0 c.if-last-eq-NONE.false _ c.owner-number.ensures (c.is_level.ensures.0 c.if-is_level.true) _ c.below.ensures

pub returns : goal.returns
returns c =
    let r = c.requires c.if-last-eq-NONE.false in
    place_own c.args.levels.now.buckets.now c.args.last.0 c.args.frequency.0 c.if-last-eq-NONE.false _ c.owner-number.ensures (rw c.owner-number.ensures r.1) (said_no _ c.is_level.ensures c.if-is_level.false)
