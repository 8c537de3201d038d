-- The frequency stays, or the slot leaves and enters at the place above `last`.
use Rattle.buckets_regroup.proofs.Changes.{changed_lowers}
use Rattle.buckets_regroup.proofs.Falling as laws
use Rattle.buckets_regroup.proofs.sound.fall.Goals as goal

pub frequency-frequency-requires : goal.frequency-frequency-requires
frequency-frequency-requires c = laws.falling_record _ _ _ _ _ _ c.requires

pub returns-then-lower-frequency-clause-does : goal.returns-then-lower-frequency-clause-does
returns-then-lower-frequency-clause-does c = laws.falls_not _ _ _ _ _ _ _ c.frequency-frequency.ensures _ c.of-lower.ensures c.if-lower-frequency.true

pub leave-requires : goal.leave-requires
leave-requires c = laws.falling_leaves _ _ _ _ _ _ c.requires

pub place_above-at-requires : goal.place_above-at-requires
place_above-at-requires c =
    laws.left_reachable _ _ _ _ _ _ _ c.frequency-frequency.ensures _ c.of-lower.ensures (changed_lowers c.args.change) c.if-lower-frequency.false _ _ _ c.leave.ensures.does c.requires

pub enter-requires : goal.enter-requires
enter-requires c =
    laws.left_ready _ _ _ _ _ _ _ c.frequency-frequency.ensures _ c.of-lower.ensures (changed_lowers c.args.change) c.if-lower-frequency.false _ _ _ c.leave.ensures.does c.requires _ c.place_above-at.ensures

pub returns-clause-does : goal.returns-clause-does
returns-clause-does c =
    laws.falls_in _ _ _ _ _ _ _ c.frequency-frequency.ensures _ c.of-lower.ensures (changed_lowers c.args.change) c.if-lower-frequency.false _ _ _ c.leave.ensures.does _ c.place_above-at.ensures _ _ c.enter.ensures.does
