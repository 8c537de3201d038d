-- The pieces of a line stand one behind another.
use Rattle.drive_lines.proofs.Spelling.{done_spelled, refused_spelled, one_spelled, two_spelled, stored_spelled, just_spelled}
use Rattle.drive_lines.proofs.sound.write.Goals as goal

pub returns-in-Done : goal.returns-in-Done
returns-in-Done c = done_spelled _ _ _ _ _ c.number-end.ensures _ _ c.in-Done.is c.put.ensures

pub returns-in-Refused : goal.returns-in-Refused
returns-in-Refused c = refused_spelled _ _ _ _ _ _ _ c.from.ensures c.number-end-in-Refused.ensures _ _ c.in-Refused.is c.put-in-Refused.ensures

pub returns-in-One : goal.returns-in-One
returns-in-One c =
    one_spelled _ _ _ _ _ c.number-first.ensures _ _ _ c.spaced-end.ensures _ _ c.in-One.is c.put-in-One.ensures

pub returns-in-Two : goal.returns-in-Two
returns-in-Two c =
    two_spelled _ _ _ _ _ c.number-first-in-Two.ensures _ _ _ c.spaced-second.ensures _ _ _ c.spaced-end-in-Two.ensures _ _ c.in-Two.is c.put-in-Two.ensures

pub returns-in-Stored : goal.returns-in-Stored
returns-in-Stored c =
    stored_spelled _ _ _ _ _ c.number-first-in-Stored.ensures _ _ c.put-next.ensures _ _ _ c.in-Stored.is c.write.ensures

pub returns-in-Just : goal.returns-in-Just
returns-in-Just c = just_spelled _ _ _ _ _ _ c.in-Just.is c.write-in-Just.ensures
