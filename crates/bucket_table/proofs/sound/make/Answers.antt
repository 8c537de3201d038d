-- The ring's law for a record that comes in after `at`, and the arena's for one that is taken.
use Rattle.bucket_table.proofs.Steps as laws
use Rattle.bucket_table.proofs.sound.make.Goals as goal

pub returns : goal.returns
returns c =
    laws.makes _ _ _ _ _ c.requires _ c.above-higher.ensures _ _ _ c.take-number.ensures _ _ _ _ _ c.fill.ensures c.link-state.ensures c.link-state-2.ensures
