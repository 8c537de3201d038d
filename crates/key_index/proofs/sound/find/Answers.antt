-- What the place of the key says: the slot there has it, or none does.
use borrow.Author.Rules.{rules}
use native.Mathlib.Omega.{arith}
use Rattle.key_index.proofs.Placing.{placed, place_below, place_has, place_not}
use Rattle.key_index.proofs.sound.find.Goals as goal
use Rattle.key_index.proofs.sound.find.Goals.{else-s-keys-via-then-s-keys+else-keys-s, else-s-keys-via-else-s-keys}

pub offset_bounds-index-at : goal.offset_bounds-index-at
offset_bounds-index-at c =
    let h = place_below _ _ _ _ (placed _ _ _ _ c.place-at.ensures) c.requires (omega arith) in
    search rules

pub bounds-index-at : goal.bounds-index-at
bounds-index-at c = place_below _ _ _ _ (placed _ _ _ _ c.place-at.ensures) c.requires (omega arith)

pub returns-then-keys-s : goal.returns-then-keys-s
returns-then-keys-s c = (place_has _ _ _ _ c.requires c.place-at.ensures c.if-s-keys.true, c.if-keys-s.true)

pub returns : goal.returns
returns c =
    place_not _ _ _ _ c.requires c.place-at.ensures
    (λ l.
    elim c.else-s-keys.branch [
      | else-s-keys-via-then-s-keys+else-keys-s w ↦ w.if-keys-s.false
      | else-s-keys-via-else-s-keys w ↦ absurd (omega arith)
    ])
