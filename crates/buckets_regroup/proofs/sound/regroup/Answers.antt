-- Some levels are done and the others are left; it ends since each turn leaves fewer slots.
use Rattle.std.proofs.Common.{rules}
use Rattle.buckets_regroup.proofs.Changes.{changed_lowers}
use Rattle.buckets_regroup.proofs.Turns.{midway_start, midway_end, turn, midway_in}
use Rattle.buckets_regroup.proofs.Remaining.{tail_in, own_spot, midway_on, fewer_remain}
use Rattle.buckets_regroup.proofs.sound.regroup.Goals as goal

pub loop-number-init : goal.loop-number-init
loop-number-init c = (search rules, λ ls h. midway_start _ _ _ ls h)

pub ends-ends-requires : goal.ends-ends-requires
ends-ends-requires c = midway_in _ _ _ _ _ _ (c.loop-number.invariant.1 c.requires.0 c.requires.1) c.loop-number-test.true

pub fall-requires : goal.fall-requires
fall-requires c =
    (turn _ _ _ _ _ _ (c.loop-number.invariant.1 c.requires.0 c.requires.1) c.loop-number-test.true _ c.ends-ends.ensures.1).falling

pub owner-own-requires : goal.owner-own-requires
owner-own-requires c =
    tail_in _ (changed_lowers c.args.change) _ _ _ _ _ (c.loop-number.invariant.1 c.requires.0 c.requires.1) c.loop-number-test.true _ c.ends-ends.ensures.1 _ _ c.fall.ensures.does

pub above-number-requires : goal.above-number-requires
above-number-requires c =
    own_spot _ (changed_lowers c.args.change) _ _ _ _ _ (c.loop-number.invariant.1 c.requires.0 c.requires.1) c.loop-number-test.true _ c.ends-ends.ensures.1 _ _ c.fall.ensures.does _ c.owner-own.ensures

pub loop-number-smaller : goal.loop-number-smaller
loop-number-smaller c =
    fewer_remain _ (changed_lowers c.args.change) _ _ _ _ _ (c.loop-number.invariant.1 c.requires.0 c.requires.1) c.loop-number-test.true _ c.ends-ends.ensures.1 _ _ c.fall.ensures.does _ c.owner-own.ensures _ c.above-number.ensures

pub loop-number-preserved : goal.loop-number-preserved
loop-number-preserved c =
    (search rules, λ ls h. midway_on _ (changed_lowers c.args.change) _ _ _ _ _ (c.loop-number.invariant.1 ls h) c.loop-number-test.true _ c.ends-ends.ensures.1 _ _ c.fall.ensures.does _ c.owner-own.ensures _ c.above-number.ensures)

pub returns-clause-does : goal.returns-clause-does
returns-clause-does c = record { holds = λ ls h. midway_end _ _ _ _ _ _ (c.loop-number.invariant.1 ls h) c.loop-number-test.false }
