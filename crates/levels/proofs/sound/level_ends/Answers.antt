-- The first record from the frequency on has it, or no record has.
use mathlib.Core.Path.{refl}
use Rattle.lists.proofs.Tests.{said_no}
use Rattle.bucket_table.proofs.Places.{spot_in}
use Rattle.levels.proofs.Answers as laws
use Rattle.levels.proofs.sound.level_ends.Goals as goal

pub above-number-requires : goal.above-number-requires
above-number-requires c = (laws.head_spots c.args.buckets.now c.args.state _ _ _ c.place-at.ensures refl c.requires).0

pub is_level-requires : goal.is_level-requires
is_level-requires c = (laws.head_spots c.args.buckets.now c.args.state _ _ _ c.place-at.ensures c.above-number.ensures c.requires).1

pub ends-requires : goal.ends-requires
ends-requires c =
    spot_in c.args.buckets.now _ (laws.head_spots c.args.buckets.now c.args.state _ _ _ c.place-at.ensures c.above-number.ensures c.requires).1 (c.is_level.ensures.0 c.if-is_level.true).0

pub returns-then-is_level : goal.returns-then-is_level
returns-then-is_level c =
    laws.ends_there _ _ _ _ _ c.place-at.ensures c.above-number.ensures (c.is_level.ensures.0 c.if-is_level.true) _ c.ends.ensures

pub returns : goal.returns
returns c =
    laws.ends_none _ _ _ _ _ c.place-at.ensures c.above-number.ensures (said_no _ c.is_level.ensures c.if-is_level.false)
