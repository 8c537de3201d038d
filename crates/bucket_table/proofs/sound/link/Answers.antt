-- The store is inside the table, or the end changes, or there is no such record.
use borrow.Author.Rules.{rules}
use Rattle.bucket_table.proofs.Words.{link_in, link_out}
use Rattle.bucket_table.proofs.sound.link.Goals as goal

pub returns-then-number-ge-NONE : goal.returns-then-number-ge-NONE
returns-then-number-ge-NONE c = search (rules, link_out)

pub returns : goal.returns
returns c = search (rules, link_in)
