-- The lengths first; only tables that fit are looked into.
use Rattle.std.proofs.Common.{sym}
use Rattle.buckets_check.proofs.Steps as steps
use Rattle.buckets_check.proofs.check.Goals as goal

pub returns-then-not-is_sound : goal.returns-then-not-is_sound
returns-then-not-is_sound g c =
    steps.unsound _ _ _ c.measure.ensures _ c.in_ok-measure.was _ (rw (sym c.shown.ensures) (rw (sym c.shown-2.ensures) c.is_sound.ensures)) c.if-not-is_sound.true

pub returns : goal.returns
returns g c =
    steps.holds _ _ _ c.measure.ensures _ c.in_ok-measure.was _ (rw (sym c.shown.ensures) (rw (sym c.shown-2.ensures) c.is_sound.ensures)) c.if-not-is_sound.false
