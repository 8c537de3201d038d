-- The new tables hold the empty cache, and the part is all of the records.
use native.Mathlib.Omega.{arith}
use Rattle.trace_input.proofs.Wholes.{part_all}
use Rattle.trace_input.proofs.sound.inputs.afresh.Goals as goal

pub part-requires : goal.part-requires
part-requires c = let w = c.requires in ((_, c.make-state.ensures.does _ w.0.base.buckets_size), omega arith, w.1)

pub returns : goal.returns
returns c = part_all _ _ _ _ _ _ _ c.part.ensures.does _ (c.make-state.ensures.does _ c.requires.0.base.buckets_size)
