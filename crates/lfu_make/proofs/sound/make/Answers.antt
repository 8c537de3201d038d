-- The values are wiped, and the layer below makes the rest.
use Rattle.lfu_make.proofs.News as news
use Rattle.lfu_make.proofs.sound.make.Goals as goal

pub returns-clause-does : goal.returns-clause-does
returns-clause-does c = news.cleared _ _ _ _ _ _ _ _ _ _ c.make.ensures.does c.requires.1 c.wipe.ensures
