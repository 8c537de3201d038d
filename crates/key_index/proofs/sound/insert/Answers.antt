-- The law of inserting at the place of the key.
use borrow.Author.Rules.{rules}
use lib.ListN.{length-set}
use Rattle.key_index.proofs.Steps.{w_below, inserted}
use Rattle.key_index.proofs.sound.insert.Goals as goal

pub offset_bounds-index-at : goal.offset_bounds-index-at
offset_bounds-index-at c =
    let h = w_below _ _ _ _ c.requires.0 c.place-at.ensures c.requires.1 in
    search rules

pub bounds-index-at : goal.bounds-index-at
bounds-index-at c = w_below _ _ _ _ c.requires.0 c.place-at.ensures c.requires.1

pub offset_bounds-index-at-2 : goal.offset_bounds-index-at-2
offset_bounds-index-at-2 c =
    let h = w_below _ _ _ _ c.requires.0 c.place-at.ensures c.requires.1 in
    search rules

pub bounds-index-at-2 : goal.bounds-index-at-2
bounds-index-at-2 c = simp length-set (w_below _ _ _ _ c.requires.0 c.place-at.ensures c.requires.1)

pub returns : goal.returns
returns c = inserted _ _ _ _ c.requires.0 c.place-at.ensures c.requires.1
