-- The row's frequency changes, and it stays between its neighbours.
use borrow.Author.Rules.{rules}
use Rattle.bucket_table.proofs.Steps.{raised_to}
use Rattle.bucket_table.proofs.sound.raise.Goals as goal

pub returns : goal.returns
returns c = search (rules, raised_to)
