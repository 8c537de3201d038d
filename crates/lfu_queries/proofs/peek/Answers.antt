-- Checked, then told by the key's slot.
use Rattle.ledger.proofs.CacheRefusals.{peek_asks}
use Rattle.cache_tables.proofs.Public as public
use Rattle.lfu_queries.proofs.peek.Goals as goal

pub returns : goal.returns
returns c =
    public.answers _ _ _ c.check.ensures _ (peek_asks _) _ _ c.in_ok-check.was (c.peek.ensures _ _ _ _ _ _ _ _)
