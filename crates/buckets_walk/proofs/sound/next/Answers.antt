-- The cell of the slot, if there is one, says it all.
use Rattle.std.proofs.Common.{arith}
use Rattle.lists.proofs.Tests.{said_no}
use Rattle.buckets_walk.proofs.Walking as laws
use Rattle.buckets_walk.proofs.sound.next.Goals as goal

pub returns-then-is_free : goal.returns-then-is_free
returns-then-is_free c = laws.next_free _ _ (c.is_free.ensures.0 c.if-is_free.true).1

pub returns-then-after-eq-NONE : goal.returns-then-after-eq-NONE
returns-then-after-eq-NONE c =
    laws.next_none _ _ c.if-s-nexts.true (λ e. said_no _ c.is_free.ensures c.if-is_free.false (c.if-s-nexts.true, e)) _ c.next-after.ensures c.if-after-eq-NONE.true

pub returns-then-s-nexts : goal.returns-then-s-nexts
returns-then-s-nexts c =
    laws.next_at _ _ c.if-s-nexts.true (λ e. said_no _ c.is_free.ensures c.if-is_free.false (c.if-s-nexts.true, e)) _ c.next-after.ensures c.if-after-eq-NONE.false

pub returns : goal.returns
returns c = laws.next_outside _ _ (let left = c.if-s-nexts.false in omega arith)
