-- The promise of a batch of inserts leaves no choice, as the other promises leave none: by whether the two slices have one length.
use mathlib.Core.Path.{sym, ◌∙◌}
use mathlib.Core.List.{List}
use mathlib.Core.Logic.{inl}
use Prim.Native.Nat.{ℕ}
use lib.ListN.{length}
use Rattle.lists.proofs.Tests.{by_eq}
use Rattle.ledger.specs.Buckets.{Reply}
use Rattle.ledger.specs.CacheCalls.{insert_batch_call}
use Rattle.buckets_tables.specs.declared.State.{State}
use Rattle.cache_tables.specs.Tables.{CacheTables}
use Rattle.cache_tables.proofs.Agreeing.{CacheAgree, promises_agree}
use Rattle.lfu_batches.specs.Batches.{pairs, InsertsAll}

pub inserts_agree : (ks vs : List ℕ) (t₀ : CacheTables) (s₀ : State) (r q : Reply) (t u : CacheTables) (s z : State) →
    InsertsAll ks vs t₀ s₀ r t s → InsertsAll ks vs t₀ s₀ q u z → CacheAgree r t s q u z
inserts_agree ks vs t₀ s₀ r q t u s z a b =
    by_eq (length ks) (length vs) (λ e. promises_agree r q t u s z (insert_batch_call (pairs ks vs)) t₀ s₀ (a.even e) (b.even e))
    (λ n.
    let x = a.uneven n in
    let y = b.uneven n in
    record { reply = x.answer ∙ sym y.answer; after = inl (x.tables ∙ sym y.tables, x.state ∙ sym y.state) })
