-- The word of a record, or the lowest record after NONE.
use Rattle.bucket_table.proofs.Places.{up_none, up_record}
use Rattle.bucket_table.proofs.sound.above.Goals as goal

pub returns-then-number-eq-NONE : goal.returns-then-number-eq-NONE
returns-then-number-eq-NONE c = up_none c.args.buckets.now c.args.state _ c.if-number-eq-NONE.true

pub returns : goal.returns
returns c = up_record c.args.buckets.now c.args.state _ _ c.if-number-eq-NONE.false c.word.ensures
