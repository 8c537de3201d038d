-- Checked, then done on sound tables; or refused by the check, with nothing changed.
use Rattle.cache_tables.proofs.Public as public
use Rattle.lfu.proofs.reset_frequency.Goals as goal

pub returns-clause-does : goal.returns-clause-does
returns-clause-does c = public.does _ _ _ c.check.ensures _ _ _ _ _ c.in_ok-check.was (c.reset_frequency.ensures.does (_, _))
