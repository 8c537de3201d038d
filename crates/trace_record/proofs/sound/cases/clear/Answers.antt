-- Clearing makes the tables anew.
use mathlib.Core.Path.{refl}
use Rattle.lfu_make.proofs.News as news
use Rattle.trace_record.proofs.Telling.{clear_tells}
use Rattle.trace_record.proofs.sound.cases.clear.Goals as goal

pub returns-clause-does : goal.returns-clause-does
returns-clause-does c = λ b. clear_tells _ _ _ _ _ refl (news.clear_does _ _ _ _ _ _ _ _ _ _ c.make.ensures.does)
