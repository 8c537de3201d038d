-- Key, frequency and epoch are read where the links lead.
use Rattle.std.proofs.Common.{rules, ◌∙◌}
use Rattle.buckets_walk.proofs.Walking as laws
use Rattle.buckets_walk.proofs.sound.walk_step.Goals as goal

pub returns-in_err-there : goal.returns-in_err-there
returns-in_err-there c =
    λ p a i b sp s l h. (search rules) ∙ laws.step_nowhere _ _ _ _ _ _ (rw c.in_err-there.was at c.next.ensures) p a i b sp s l h

pub returns-in_default : goal.returns-in_default
returns-in_default c = laws.step_past _ _ _ _ _ (rw c.in_default.is at c.in_ok-there.ensures)

pub offset_bounds-keys-s : goal.offset_bounds-keys-s
offset_bounds-keys-s c =
    let below = laws.step_below _ _ _ _ _ _ (rw c.in-Some.is at c.in_ok-there.ensures) c.requires in search rules

pub bounds-keys-s : goal.bounds-keys-s
bounds-keys-s c = (laws.step_below _ _ _ _ _ _ (rw c.in-Some.is at c.in_ok-there.ensures) c.requires).1

pub offset_bounds-freqs-s : goal.offset_bounds-freqs-s
offset_bounds-freqs-s c =
    let below = laws.step_below _ _ _ _ _ _ (rw c.in-Some.is at c.in_ok-there.ensures) c.requires in search rules

pub bounds-freqs-s : goal.bounds-freqs-s
bounds-freqs-s c = (laws.step_below _ _ _ _ _ _ (rw c.in-Some.is at c.in_ok-there.ensures) c.requires).2

pub offset_bounds-epochs-s : goal.offset_bounds-epochs-s
offset_bounds-epochs-s c =
    let below = laws.step_below _ _ _ _ _ _ (rw c.in-Some.is at c.in_ok-there.ensures) c.requires in search rules

pub bounds-epochs-s : goal.bounds-epochs-s
bounds-epochs-s c = (laws.step_below _ _ _ _ _ _ (rw c.in-Some.is at c.in_ok-there.ensures) c.requires).3

pub returns : goal.returns
returns c = laws.step_shown _ _ _ _ _ _ (rw c.in-Some.is at c.in_ok-there.ensures)
