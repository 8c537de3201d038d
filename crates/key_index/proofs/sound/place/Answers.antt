-- The slots passed have smaller keys; the keys ascend, so that what is ahead shrinks.
use borrow.Author.Rules.{rules}
use native.Mathlib.Omega.{arith}
use mathlib.Core.Path.{refl, sym, subst}
use Rattle.key_index.proofs.Placing.{Placing, place_start, place_below, place_more, place_less, place_end}
use Rattle.key_index.proofs.sound.place.Goals as goal

pub offset_bounds-index-at : goal.offset_bounds-index-at
offset_bounds-index-at c =
    -- the first word is the class of the key
    let first = subst (Placing c.args.index.now c.args.keys.now c.args.key.0) (sym c.class_of-at.ensures) (place_start _ _ _ c.requires.0 c.requires.1) in
    let h = place_below _ _ _ _ first c.requires.0 c.requires.1 in
    search rules

pub bounds-index-at : goal.bounds-index-at
bounds-index-at c =
    let first = subst (Placing c.args.index.now c.args.keys.now c.args.key.0) (sym c.class_of-at.ensures) (place_start _ _ _ c.requires.0 c.requires.1) in
    place_below _ _ _ _ first c.requires.0 c.requires.1

pub loop-s-init : goal.loop-s-init
loop-s-init c =
    let first = subst (Placing c.args.index.now c.args.keys.now c.args.key.0) (sym c.class_of-at.ensures) (place_start _ _ _ c.requires.0 c.requires.1) in
    (refl, refl, first)

pub loop-s-smaller : goal.loop-s-smaller
loop-s-smaller c =
    let inv = c.loop-s.invariant in
    place_less _ _ _ _ inv.2 c.requires.0 _ inv.1 c.loop-s-test.true c.if-keys-s.true

pub loop-s-preserved : goal.loop-s-preserved
loop-s-preserved c =
    let inv = c.loop-s.invariant in (
      refl,
      refl,
      place_more _ _ _ _ inv.2 c.requires.0 _ inv.1 c.loop-s-test.true c.if-keys-s.true,
    )

pub returns-else-keys-s : goal.returns-else-keys-s
returns-else-keys-s c =
    let inv = c.loop-s.invariant in
    place_end _ _ _ _ inv.2 c.requires.0 _ inv.1 (λ l. c.if-keys-s.false)

pub returns-after-loop-s : goal.returns-after-loop-s
returns-after-loop-s c =
    let inv = c.loop-s.invariant in
    place_end _ _ _ _ inv.2 c.requires.0 _ inv.1 (λ l. absurd (omega arith))
