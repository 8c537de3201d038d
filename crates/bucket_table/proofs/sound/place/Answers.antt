-- All rows passed are below the frequency; it ends since the frequencies rise.
use native.Mathlib.Omega.{arith}
use mathlib.Core.Path.{refl}
use mathlib.Core.List.{[]}
use Rattle.bucket_table.proofs.Places as laws
use Rattle.bucket_table.proofs.sound.place.Goals as goal

pub loop-number-init : goal.loop-number-init
loop-number-init c = λ s e. ([], laws.standing_none _ s _ e, tt)

pub word-requires : goal.word-requires
word-requires c =
    let p = c.loop-number.invariant _ refl in ((laws.next_in _ _ _ _ _ p.1 c.loop-number-test.true _ c.requires.1).1, omega arith)

pub returns-then-word-frequency : goal.returns-then-word-frequency
returns-then-word-frequency c =
    laws.placed_here _ _ _ _ _ (c.loop-number.invariant _ refl) c.loop-number-test.true _ c.word.ensures c.if-word-frequency.true

pub word-number-requires : goal.word-number-requires
word-number-requires c =
    let p = c.loop-number.invariant _ refl in ((laws.next_in _ _ _ _ _ p.1 c.loop-number-test.true _ c.requires.1).1, omega arith)

pub loop-number-smaller : goal.loop-number-smaller
loop-number-smaller c =
    let p = c.loop-number.invariant _ refl in laws.rise_less _ _ _ _ _ p.1 c.loop-number-test.true _ c.requires.1 _ (laws.up_record c.args.buckets.now c.args.state _ _ c.loop-number-test.true c.word-number.ensures)

pub loop-number-preserved : goal.loop-number-preserved
loop-number-preserved c =
    λ s e. laws.passed_more _ s _ _ _ (c.loop-number.invariant s e) c.loop-number-test.true _ _ c.word.ensures (omega arith) c.word-number.ensures

pub returns : goal.returns
returns c = laws.placed_end _ _ _ _ _ (c.loop-number.invariant _ refl) c.loop-number-test.false
