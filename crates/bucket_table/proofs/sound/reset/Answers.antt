-- A filled arena has no slot in use, and no record is linked.
use borrow.Author.Rules.{rules}
use Rattle.bucket_table.proofs.Steps.{resets}
use Rattle.bucket_table.proofs.sound.reset.Goals as goal

pub returns : goal.returns
returns c = search (rules, resets)
