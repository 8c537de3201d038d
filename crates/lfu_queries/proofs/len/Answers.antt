-- Checked, then told by the state.
use Rattle.ledger.proofs.CacheRefusals.{len_asks}
use Rattle.cache_tables.proofs.Public as public
use Rattle.lfu_queries.proofs.Asking as asking
use Rattle.lfu_queries.proofs.len.Goals as goal

pub returns : goal.returns
returns c =
    public.answers _ _ _ c.check.ensures _ len_asks _ _ c.in_ok-check.was (asking.len_tells _ _ _ c.len.ensures)
