-- The values fill the first places of their table, and these are lent to the call, with the keys that they begin with.
use mathlib.Core.Path.{refl, sym}
use Prim.Native.Nat.{◌+◌}
use native.Mathlib.Omega.{arith}
use lib.Seq.{length-take-le, length_front}
use Rattle.drive_record.proofs.Acting.{values_size, values_lent, keys_lent, batched_bad, batched_bucket, batched_cache}
use Rattle.drive_record.proofs.sound.batch.Goals as goal

pub returns-then-b-more-clause-does : goal.returns-then-b-more-clause-does
returns-then-b-more-clause-does c =
    batched_bad c.args.code c.args.a c.args.b _ c.args.state.now c.surplus-more.result c.surplus-more.ensures.0 c.if-b-more.true

pub slice_bounds-fill-end-2 : goal.slice_bounds-fill-end-2
slice_bounds-fill-end-2 c =
    let more = c.surplus-more.ensures in let small = c.if-b-more.false in let room = c.requires in sym (length-take-le (c.args.b + c.surplus-more.result) c.args.items.now (omega arith))

pub slice_bounds-given-end-2 : goal.slice_bounds-given-end-2
slice_bounds-given-end-2 c =
    let more = c.surplus-more.ensures in let small = c.if-b-more.false in let room = c.requires in sym (values_size (c.args.b + c.surplus-more.result) c.args.items.now c.fill.new.items (omega arith) c.fill.auto.items)

pub slice_bounds-keys-end : goal.slice_bounds-keys-end
slice_bounds-keys-end c =
    let more = c.surplus-more.ensures in let small = c.if-b-more.false in let room = c.requires in let size = values_size (c.args.b + c.surplus-more.result) c.args.items.now c.fill.new.items (omega arith) c.fill.auto.items in sym (length-take-le c.args.b _ (omega arith))

pub shape_of-items-then-code-lt63 : goal.shape_of-items-then-code-lt63
shape_of-items-then-code-lt63 c = length_front c.args.items.now c.fill.new.items (c.args.b + c.surplus-more.result) c.fill.auto.items

pub returns-then-code-lt63-clause-does : goal.returns-then-code-lt63-clause-does
returns-then-code-lt63-clause-does c =
    let more = c.surplus-more.ensures in let small = c.if-b-more.false in let room = c.requires in batched_bucket c.args.code c.args.a c.args.b _ _ _ _ _ c.surplus-more.result c.surplus-more.ensures.0 (omega arith) _ (keys_lent c.args.a c.args.b (c.args.b + c.surplus-more.result) _ (omega arith) (values_lent (c.args.b + c.surplus-more.result) c.args.items.now c.fill.new.items (omega arith) c.fill.auto.items c.args.a c.fill.ensures)) c.if-code-lt63.true c.batch.ensures.does refl

pub shape_of-items : goal.shape_of-items
shape_of-items c = length_front c.args.items.now c.fill.new.items (c.args.b + c.surplus-more.result) c.fill.auto.items

pub returns-clause-does : goal.returns-clause-does
returns-clause-does c =
    let more = c.surplus-more.ensures in let small = c.if-b-more.false in let room = c.requires in let high = c.if-code-lt63.false in batched_cache c.args.code c.args.a c.args.b _ _ _ _ _ c.surplus-more.result c.surplus-more.ensures.0 (omega arith) _ (keys_lent c.args.a c.args.b (c.args.b + c.surplus-more.result) _ (omega arith) (values_lent (c.args.b + c.surplus-more.result) c.args.items.now c.fill.new.items (omega arith) c.fill.auto.items c.args.a c.fill.ensures)) (omega arith) _ (values_lent (c.args.b + c.surplus-more.result) c.args.items.now c.fill.new.items (omega arith) c.fill.auto.items c.args.a c.fill.ensures) c.batch-2.ensures.does
