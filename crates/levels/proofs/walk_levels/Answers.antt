-- The lines passed are the beginning of all lines; the walk ends since the frequencies rise.
use Rattle.bucket_table.proofs.Places.{next_in, rise_less}
use Rattle.levels.proofs.Checks as laws
use Rattle.levels.proofs.walk_levels.Goals as goal

pub loop-number-init : goal.loop-number-init
loop-number-init c = laws.climb_start _ _ _ _ _ _

pub walk_list-requires : goal.walk_list-requires
walk_list-requires c =
    (c.requires.0, (next_in _ _ _ _ _ c.loop-number.invariant.standing c.loop-number-test.true _ c.requires.1.1).1)

pub returns-in_default : goal.returns-in_default
returns-in_default c =
    laws.levels_bad _ _ _ _ _ _ _ _ c.requires.0 c.loop-number.invariant c.loop-number-test.true c.in_default.ensures

pub loop-number-smaller : goal.loop-number-smaller
loop-number-smaller c =
    rise_less _ _ _ _ _ c.loop-number.invariant.standing c.loop-number-test.true _ c.requires.1.1 _ c.above-number.ensures

pub loop-number-preserved : goal.loop-number-preserved
loop-number-preserved c =
    laws.climb_on _ _ _ _ _ _ _ _ c.requires.0 c.loop-number.invariant c.loop-number-test.true _ c.in-Some.ensures _ c.above-number.ensures

pub returns : goal.returns
returns c = laws.levels_done _ _ _ _ _ _ _ _ c.requires.0 c.loop-number.invariant c.loop-number-test.false
