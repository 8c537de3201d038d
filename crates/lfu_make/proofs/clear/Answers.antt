-- Checked, then done on sound tables; or refused by the check, with nothing changed.
use Rattle.cache_tables.proofs.Public as public
use Rattle.lfu_make.proofs.News as news
use Rattle.lfu_make.proofs.clear.Goals as goal

pub returns-clause-does : goal.returns-clause-does
returns-clause-does c =
    public.does _ _ _ c.check.ensures _ _ _ _ _ c.in_ok-check.was (news.clear_does _ _ _ _ _ _ _ _ _ _ c.make.ensures.does)
