-- Checked, then told by the lowest list.
use Rattle.ledger.proofs.CacheRefusals.{peek_lfu_asks}
use Rattle.cache_tables.proofs.Public as public
use Rattle.lfu_queries.proofs.peek_lfu.Goals as goal

pub returns : goal.returns
returns c =
    public.answers _ _ _ c.check.ensures _ peek_lfu_asks _ _ c.in_ok-check.was (c.peek_lfu.ensures _ _ _ _ _ _ _)
