-- Tables and buffers keep their lengths from turn to turn.
use borrow.Author.Rules.{rules}
use mathlib.Core.Path.{sym, ◌∙◌}
use Prim.Native.Nat.{ℕ}
use lib.ListN.{length-replicate}
use Rattle.drive.proofs.Turning.{running_start}
use Rattle.drive.proofs.sound.run.Goals as goal

pub loop-init : goal.loop-init
loop-init c = (search rules, running_start _ _ _ (length-replicate {A = ℕ} 4096 0) c.large_buffer-input.ensures c.room-out.ensures)

pub slice_bounds-turn-end : goal.slice_bounds-turn-end
slice_bounds-turn-end c = sym c.loop.invariant.1.buffers.places

pub slice_bounds-turn-end-in-loop : goal.slice_bounds-turn-end-in-loop
slice_bounds-turn-end-in-loop c = c.loop.invariant.1.input_size

pub slice_bounds-turn-end-in-loop-2 : goal.slice_bounds-turn-end-in-loop-2
slice_bounds-turn-end-in-loop-2 c = c.loop.invariant.1.out_size

pub turn-turned-requires : goal.turn-turned-requires
turn-turned-requires c = c.loop.invariant.1.buffers

pub loop-preserved : goal.loop-preserved
loop-preserved c =
    (search rules, record { buffers = c.turn-turned.ensures.does.buffers; input_size = c.loop.invariant.1.input_size ∙ sym c.turn-turned.auto.input; out_size = c.loop.invariant.1.out_size ∙ sym c.turn-turned.auto.out })
