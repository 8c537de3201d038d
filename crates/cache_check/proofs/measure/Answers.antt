-- The table of values first; where it has the right length, the other tables decide.
use Rattle.cache_check.proofs.Values as laws
use Rattle.cache_check.proofs.measure.Goals as goal

pub returns-then-values-capacity : goal.returns-then-values-capacity
returns-then-values-capacity g c = laws.other_measures _ _ _ _ c.if-values-capacity.true c.too_short.ensures

pub returns : goal.returns
returns g c = laws.same_measures _ _ _ _ c.if-values-capacity.false c.measure.ensures
