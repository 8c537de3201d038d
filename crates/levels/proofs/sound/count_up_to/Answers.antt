-- The rows passed are the beginning of all rows, none is above the frequency, and `counted` is what they have; it ends since the frequencies rise.
use mathlib.Core.Path.{refl}
use native.Mathlib.Omega.{arith}
use Rattle.bucket_table.proofs.Places.{rise_less}
use Rattle.levels.proofs.Counting as laws
use Rattle.levels.proofs.sound.count_up_to.Goals as goal

pub loop-number-init : goal.loop-number-init
loop-number-init c = laws.counted_none _ _ _ _ refl

pub frequency-f-requires : goal.frequency-f-requires
frequency-f-requires c = (laws.counted_in _ _ _ _ _ c.loop-number.invariant c.loop-number-test.true c.requires).0

pub returns-then-f-frequency : goal.returns-then-f-frequency
returns-then-f-frequency c =
    laws.counted_above _ _ _ _ _ c.loop-number.invariant c.loop-number-test.true _ c.frequency-f.ensures c.if-f-frequency.true

pub ends-ends-requires : goal.ends-ends-requires
ends-ends-requires c = (laws.counted_in _ _ _ _ _ c.loop-number.invariant c.loop-number-test.true c.requires).0

pub overflow_add-counted : goal.overflow_add-counted
overflow_add-counted c =
    let fits = laws.counted_fits _ _ _ _ _ c.loop-number.invariant c.loop-number-test.true _ c.ends-ends.ensures c.requires in omega arith

pub above-number-requires : goal.above-number-requires
above-number-requires c = (laws.counted_in _ _ _ _ _ c.loop-number.invariant c.loop-number-test.true c.requires).1

pub loop-number-smaller : goal.loop-number-smaller
loop-number-smaller c =
    rise_less _ _ _ _ _ c.loop-number.invariant.standing c.loop-number-test.true _ (laws.some_records _ _ c.requires) _ c.above-number.ensures

pub loop-number-preserved : goal.loop-number-preserved
loop-number-preserved c =
    laws.counted_more _ _ _ _ _ c.loop-number.invariant c.loop-number-test.true _ c.ends-ends.ensures _ _ c.frequency-f.ensures c.if-f-frequency.false c.above-number.ensures

pub returns : goal.returns
returns c = laws.counted_end _ _ _ _ _ c.loop-number.invariant c.loop-number-test.false
