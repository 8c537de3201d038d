-- The slots passed are the beginning of the list, and each was tested; `n` counts down, and what it has lost at the end is the record's count.
use Rattle.lists.proofs.Tests.{said_no}
use Rattle.levels.proofs.Walks as laws
use Rattle.levels.proofs.walk_list.Goals as goal
use Rattle.levels.proofs.walk_list.Goals.{then-n-eq0-via-then-n-eq0, then-n-eq0-via-else-n-eq0+then-not-slot_ok, then-at-eq-NONE-via-then-at-eq-NONE, then-at-eq-NONE-via-else-at-eq-NONE+then-ends-found, then-at-eq-NONE-via-else-at-eq-NONE+else-ends-found+then-ends-at}

pub loop-slot-init : goal.loop-slot-init
loop-slot-init c = laws.along_start _ _ _ _ _ _ _ c.ends-ends.ensures.0

pub returns-then-n-eq0 : goal.returns-then-n-eq0
returns-then-n-eq0 c =
    elim c.then-n-eq0.branch [
      | then-n-eq0-via-then-n-eq0 w ↦
          laws.list_short _ _ _ _ _ c.requires.0 _ _ _ _ c.loop-slot.invariant w.if-n-eq0.true c.loop-slot-test.true
      | then-n-eq0-via-else-n-eq0+then-not-slot_ok w ↦
          laws.list_bad _ _ _ _ _ c.requires.0 _ _ _ _ c.loop-slot.invariant c.loop-slot-test.true _ c.frequency-frequency.ensures (said_no _ w.slot_ok.ensures w.if-not-slot_ok.true)
    ]

pub loop-slot-preserved : goal.loop-slot-preserved
loop-slot-preserved c =
    laws.along_on _ _ _ _ _ c.requires.0 _ _ _ _ c.loop-slot.invariant _ c.frequency-frequency.ensures (c.slot_ok.ensures.0 c.if-not-slot_ok.false) c.if-n-eq0.false

pub returns-then-at-eq-NONE : goal.returns-then-at-eq-NONE
returns-then-at-eq-NONE c =
    elim c.then-at-eq-NONE.branch [
      | then-at-eq-NONE-via-then-at-eq-NONE w ↦
          laws.list_none _ _ _ _ _ c.requires.0 _ _ _ _ c.loop-slot.invariant c.loop-slot-test.false w.if-at-eq-NONE.true
      | then-at-eq-NONE-via-else-at-eq-NONE+then-ends-found w ↦
          laws.list_miscounted _ _ _ _ _ c.requires.0 _ _ _ _ c.loop-slot.invariant c.loop-slot-test.false _ c.ends-ends.ensures.2 w.if-ends-found.true
      | then-at-eq-NONE-via-else-at-eq-NONE+else-ends-found+then-ends-at w ↦
          laws.list_other_tail _ _ _ _ _ c.requires.0 _ _ _ _ c.loop-slot.invariant c.loop-slot-test.false _ c.ends-ends.ensures.1 w.if-ends-at.true
    ]

pub returns : goal.returns
returns c =
    laws.list_done _ _ _ _ _ c.requires.0 _ _ _ _ c.loop-slot.invariant c.loop-slot-test.false c.if-at-eq-NONE.false _ c.ends-ends.ensures.2 c.if-ends-found.false _ c.ends-ends.ensures.1 c.if-ends-at.false
