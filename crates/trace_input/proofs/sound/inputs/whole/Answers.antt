-- By what the first bytes of the input come to.
use mathlib.Core.Path.{sym, ◌∙◌}
use native.Mathlib.Omega.{arith}
use Rattle.trace.proofs.Beginning.{begins_fits}
use Rattle.trace_input.proofs.Wholes.{records_room, stops_whole, records_whole}
use Rattle.trace_input.proofs.sound.inputs.whole.Goals as goal

pub slice_bounds-start-count : goal.slice_bounds-start-count
slice_bounds-start-count c = (begins_fits _ _ (sym c.header.ensures ∙ c.in-Ok.is)).0

pub slice_bounds-start-start : goal.slice_bounds-start-start
slice_bounds-start-start c = (begins_fits _ _ (sym c.header.ensures ∙ c.in-Ok.is)).0

pub start-requires : goal.start-requires
start-requires c =
    ((begins_fits _ _ (sym c.header.ensures ∙ c.in-Ok.is)).1, records_room c.args.input.now _ c.requires.1)

pub returns-in-Err : goal.returns-in-Err
returns-in-Err c = stops_whole _ _ _ _ c.header.ensures _ c.in-Err.is _ (omega (arith, c.requires.1, c.write.auto.out)) c.write.ensures

pub returns-in-Ok : goal.returns-in-Ok
returns-in-Ok c = records_whole _ _ _ _ c.header.ensures _ c.in-Ok.is c.requires.0 c.start.ensures
