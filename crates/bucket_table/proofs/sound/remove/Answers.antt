-- The ring's law for a record that is taken out, and the arena's for one that is released.
use borrow.Author.Rules.{rules}
use Rattle.bucket_table.proofs.Steps.{drops}
use Rattle.bucket_table.proofs.sound.remove.Goals as goal

pub returns : goal.returns
returns c = search (rules, drops)
