-- The records passed are the beginning of all rows that there may be; `left` counts down.
use borrow.Author.Tests.{ne_eqb}
use Rattle.lists.proofs.Tests.{said_no}
use Rattle.bucket_table.proofs.Checks as laws
use Rattle.bucket_table.proofs.walk.Goals as goal
use Rattle.bucket_table.proofs.walk.Goals.{then-left-eq0-via-then-left-eq0, then-left-eq0-via-else-left-eq0+then-not-record_ok}

pub loop-number-init : goal.loop-number-init
loop-number-init c = laws.climb_start _ _ _ _

pub returns-then-left-eq0 : goal.returns-then-left-eq0
returns-then-left-eq0 c =
    elim c.then-left-eq0.branch [
      | then-left-eq0-via-then-left-eq0 w ↦
          laws.walk_short _ _ _ _ _ _ _ _ c.loop-number.invariant w.if-left-eq0.true c.loop-number-test.true
      | then-left-eq0-via-else-left-eq0+then-not-record_ok w ↦
          laws.walk_bad _ _ _ _ _ _ _ _ c.loop-number.invariant c.loop-number-test.true (said_no _ w.record_ok.ensures w.if-not-record_ok.true)
    ]

pub loop-number-preserved : goal.loop-number-preserved
loop-number-preserved c =
    laws.climb_on _ _ _ _ _ _ _ _ c.loop-number.invariant c.requires (c.record_ok.ensures.0 c.if-not-record_ok.false) c.if-left-eq0.false _ _ c.frequency-low.ensures c.above-number.ensures

pub returns-then-left-eq0-2 : goal.returns-then-left-eq0-2
returns-then-left-eq0-2 c = laws.walk_done _ _ _ _ _ _ _ _ c.loop-number.invariant c.requires c.loop-number-test.false c.if-left-eq0-2.true

pub returns-else-left-eq0-2 : goal.returns-else-left-eq0-2
returns-else-left-eq0-2 c =
    rw (ne_eqb c.loop-number.left 0 c.if-left-eq0-2.false) (laws.walk_left _ _ _ _ _ _ _ _ c.loop-number.invariant c.loop-number-test.false c.if-left-eq0-2.false)
