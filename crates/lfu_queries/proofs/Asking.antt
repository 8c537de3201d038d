-- What the calls on sound tables that are not lent all of them ask for, and what the count says of the cache.
use mathlib.Core.Path.{◌≡◌, sym, ap, ◌∙◌}
use mathlib.Core.List.{List}
use Prim.Native.Nat.{ℕ}
use lib.ListN.{length}
use Rattle.ledger.specs.Buckets.{Reply, len}
use Rattle.ledger.specs.Cache.{cache_len}
use Rattle.ledger.specs.History.{Len, does}
use Rattle.ledger.specs.CacheCalls.{cache_calls}
use Rattle.promise.specs.Promise.{Tells, Sound}
use Rattle.key_index.specs.Index.{IndexSound}
use Rattle.buckets_tables.specs.declared.State.{State}
use Rattle.buckets_tables.specs.Tables.{tables}
use Rattle.buckets_reads.specs.Reads.{OfState}
use Rattle.cache_tables.specs.Tables.{CacheTables, with_values}
use Rattle.cache_tables.specs.Lent.{cache}

pub peekable : (k f e p n a i b sp vs : List ℕ) (s : State) → Sound cache (with_values (tables k f e p n a i b sp) vs) s →
    IndexSound i k × (length vs ≡ length k)
peekable k f e p n a i b sp vs s w =
    let h = w.1.table in
    (h.index_sound, ap (λ (us : List ℕ). length us) w.1.values ∙ w.1.formed.fits ∙ sym h.sized.keys_size)

-- the buckets' count is the cache's
pub len_tells : (t : CacheTables) (s : State) (r : Reply) → OfState s len r → Tells cache (cache_calls Len) t s r
unfolding cache_calls does cache_len len
len_tells t s r told c h = told t.base c.table h.table
