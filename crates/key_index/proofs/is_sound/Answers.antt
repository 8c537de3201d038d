-- Each test that fails says no; the counts decide what is left.
use Rattle.key_index.proofs.Check.{counts}
use Rattle.key_index.proofs.is_sound.Goals as goal

pub returns-in-Some : goal.returns-in-Some
returns-in-Some c =
    let r = c.in-Some.ensures in
    counts _ _ r.0 c.if-capacity-gt-LIMIT.false c.if-index-capacity.false r.1 _ _ r.2 c.count_in.ensures
