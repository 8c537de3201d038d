-- The record above `at` has the frequency, or a new one is made.
use Rattle.lists.proofs.Tests.{said_no}
use Rattle.bucket_table.proofs.Places as laws
use Rattle.bucket_table.proofs.sound.ensure.Goals as goal

pub returns-then-is_level : goal.returns-then-is_level
returns-then-is_level c = laws.opens_there _ _ _ _ _ _ c.above-number.ensures c.requires.above (c.is_level.ensures.0 c.if-is_level.true)

pub returns : goal.returns
returns c =
    laws.opens_new _ _ _ _ _ _ c.above-number.ensures (said_no _ c.is_level.ensures c.if-is_level.false) _ _ _ _ c.make.ensures
