-- The definition itself, opened.
use borrow.Author.Rules.{rules}
use Rattle.key_index.specs.Class.{class_of}
use Rattle.key_index.proofs.class_of.Goals as goal

pub returns : goal.returns
unfolding class_of
returns c = search rules
