-- A store is seen in its own word, at its record.
use borrow.Author.Rules.{rules}
use Rattle.bucket_table.proofs.Words.{stored}
use Rattle.bucket_table.proofs.sound.store.Goals as goal

pub returns : goal.returns
returns c = search (rules, stored)
