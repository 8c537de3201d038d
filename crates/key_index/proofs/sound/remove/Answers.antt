-- The law of removing from the place of the key.
use borrow.Author.Rules.{rules}
use Rattle.key_index.proofs.Steps.{w_below, removed}
use Rattle.key_index.proofs.sound.remove.Goals as goal

pub offset_bounds-index-at : goal.offset_bounds-index-at
offset_bounds-index-at c =
    let h = w_below _ _ _ _ c.requires.0 c.place-at.ensures c.requires.1 in
    search rules

pub bounds-index-at : goal.bounds-index-at
bounds-index-at c = w_below _ _ _ _ c.requires.0 c.place-at.ensures c.requires.1

pub returns : goal.returns
returns c = removed _ _ _ _ c.requires.0 c.place-at.ensures c.requires.1
