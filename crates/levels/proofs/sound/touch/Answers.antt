-- At the cap the slot moves inside its list; alone it takes its record along; else it leaves and enters.
use Rattle.std.proofs.Common.{rules}
use Rattle.levels.proofs.Calls as laws
use Rattle.levels.proofs.Leave as leave
use Rattle.levels.proofs.sound.touch.Goals as goal

pub owner-number-requires : goal.owner-number-requires
owner-number-requires c = leave.bound_slot_in _ _ _ c.requires

pub frequency-f-requires : goal.frequency-f-requires
frequency-f-requires c = leave.bound_record_in _ _ _ c.requires _ c.owner-number.ensures

pub front-requires : goal.front-requires
front-requires c = ((leave.bound_fits _ _ _ c.requires).0, leave.bound_record_in _ _ _ c.requires _ c.owner-number.ensures)

pub returns-then-raised-f-clause-does : goal.returns-then-raised-f-clause-does
returns-then-raised-f-clause-does c =
    laws.touch_front _ _ _ _ _ c.owner-number.ensures _ c.frequency-f.ensures (laws.stays_at_cap _ _ _ c.capped-raised.ensures c.if-raised-f.true) _ _ _ c.front.ensures

pub in_place-requires : goal.in_place-requires
in_place-requires c =
    let q = laws.bound_spots _ _ _ c.requires _ c.owner-number.ensures in (leave.bound_record_in _ _ _ c.requires _ c.owner-number.ensures, q.0, q.1)

pub lift-requires : goal.lift-requires
lift-requires c = (leave.bound_record_in _ _ _ c.requires _ c.owner-number.ensures, (leave.bound_fits _ _ _ c.requires).1)

pub returns-then-in_place-clause-does : goal.returns-then-in_place-clause-does
returns-then-in_place-clause-does c =
    let up = laws.goes_up _ _ _ c.capped-raised.ensures c.if-raised-f.false in laws.touch_lift _ _ _ _ _ c.owner-number.ensures _ c.frequency-f.ensures up.0 _ up.1 (search rules) _ _ (c.in_place.ensures c.if-in_place.true) c.lift.ensures

pub enter-requires : goal.enter-requires
enter-requires c = laws.left_ready _ _ _ _ _ _ c.leave-at.ensures.does c.requires

pub returns-clause-does : goal.returns-clause-does
returns-clause-does c =
    let up = laws.goes_up _ _ _ c.capped-raised.ensures c.if-raised-f.false in laws.touch_moves _ _ _ _ _ c.owner-number.ensures _ c.frequency-f.ensures up.0 _ up.1 (search rules) _ _ _ c.leave-at.ensures.does _ _ c.enter.ensures.does
