-- No row has a word that changes.
use borrow.Author.Rules.{rules}
use Rattle.bucket_table.proofs.Steps.{owner_set}
use Rattle.bucket_table.proofs.sound.set_owner.Goals as goal

pub returns : goal.returns
returns c = search (rules, owner_set)
