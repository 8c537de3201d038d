-- Each turn writes the item that the reader stands at; what is left is shown from there on.
use Rattle.std.proofs.Common.{rules, Ok, Some}
use mathlib.Core.Path.{sym, ◌∙◌}
use Prim.Native.Nat.{◌+◌, ◌-◌}
use mathlib.Core.Path.{◌≡◌}
use native.Mathlib.Omega.{arith}
use lib.ListN.{length}
use Rattle.drive_walk.proofs.Items.{linked, sizes, slot_told, no_more, was_refused, none_left, no_room, begun, ended, more}
use Rattle.drive_walk.proofs.sound.items.Goals as goal

pub loop-done-init : goal.loop-done-init
loop-done-init c =
    let all : length c.args.keys.now - 0 ≡ length c.args.keys.now = omega arith in
    rw all (begun c.args.keys.now c.args.epochs.now c.args.nexts.now c.args.first c.args.out.now c.args.at c.requires.1)

pub returns-in_default : goal.returns-in_default
returns-in_default c =
    ended _ _ _ _ _ _ _ _ _ _ c.loop-done.invariant (λ ys h fit. none_left _ _ _ c.reached.ensures (search (rules, no_more)) ys h)

pub returns-in_default-2 : goal.returns-in_default-2
returns-in_default-2 c =
    ended _ _ _ _ _ _ _ _ _ _ c.loop-done.invariant (λ ys h fit. none_left _ _ _ c.reached.ensures (search (rules, was_refused)) ys h)

pub offset_bounds-keys-slot : goal.offset_bounds-keys-slot
offset_bounds-keys-slot c =
    let told : c.loop-done.stand.answer ≡ Ok (Some c.in-Ok-Some.slot) = search (rules, slot_told) in
    let below = c.loop-done.invariant.place _ told in let small = (sizes _ _ _ c.requires.0).0 in omega arith

pub bounds-keys-slot : goal.bounds-keys-slot
bounds-keys-slot c =
    let told : c.loop-done.stand.answer ≡ Ok (Some c.in-Ok-Some.slot) = search (rules, slot_told) in
    c.loop-done.invariant.place _ told

pub offset_bounds-epochs-slot : goal.offset_bounds-epochs-slot
offset_bounds-epochs-slot c =
    let told : c.loop-done.stand.answer ≡ Ok (Some c.in-Ok-Some.slot) = search (rules, slot_told) in
    let below = c.loop-done.invariant.place _ told in let small = (sizes _ _ _ c.requires.0).0 in omega arith

pub bounds-epochs-slot : goal.bounds-epochs-slot
bounds-epochs-slot c =
    let told : c.loop-done.stand.answer ≡ Ok (Some c.in-Ok-Some.slot) = search (rules, slot_told) in
    let below = c.loop-done.invariant.place _ told in let same = (sizes _ _ _ c.requires.0).1 in omega arith

pub item-end-requires : goal.item-end-requires
item-end-requires c = omega (arith, c.loop-done.invariant.size, c.loop-done.invariant.room, c.requires.2)

pub onward-stand-requires : goal.onward-stand-requires
onward-stand-requires c = linked _ _ _ c.requires.0

pub loop-done-preserved : goal.loop-done-preserved
loop-done-preserved c =
    let told : c.loop-done.stand.answer ≡ Ok (Some c.in-Ok-Some.slot) = search (rules, slot_told) in
    let one : length c.args.keys.now - (c.loop-done._done + 1) ≡ (length c.args.keys.now - c.loop-done._done) - 1 = omega arith in
    rw one (more _ _ _ _ _ _ _ _ _ _ _ (sym told) _ _ c.item-end.ensures _ c.onward-stand.ensures (omega arith) c.requires.0 c.item-end.auto.out c.loop-done.invariant)

pub returns : goal.returns
returns c = ended _ _ _ _ _ _ _ _ _ _ c.loop-done.invariant (λ ys h fit. no_room ys (let all = c.loop-done-test.false in omega arith))
