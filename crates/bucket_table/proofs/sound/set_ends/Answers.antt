-- The row's ends change, and nothing else of the rows.
use borrow.Author.Rules.{rules}
use Rattle.bucket_table.proofs.Steps.{ends_set}
use Rattle.bucket_table.proofs.sound.set_ends.Goals as goal

pub returns : goal.returns
returns c = search (rules, ends_set)
