-- A record leaves no choice: two results that its contract allows print the same bytes, and their tables hold one and the same cache.
use mathlib.Core.Path.{◌≡◌, ◌∙◌}
use mathlib.Core.List.{List}
use Prim.Native.Nat.{ℕ}
use lib.ListN.{take}
use Rattle.ledger.specs.Cache.{Cache}
use Rattle.buckets_tables.specs.declared.State.{State}
use Rattle.cache_tables.specs.Tables.{CacheTables, CacheHolds}
use Rattle.cache_tables.proofs.Cached.{cache_holds_one}
use Rattle.trace.specs.declared.Line.{Line}
use Rattle.trace.specs.Lines.{text}
use Rattle.trace.proofs.Writing.{writes_agree}
use Rattle.trace_record.specs.Steps.{RecordPrints}

-- a cache that both results hold, and there is no other
pub record HoldSame (t₁ : CacheTables) (s₁ : State) (t₂ : CacheTables) (s₂ : State) : Type 0 where
  pub held : Cache
  pub first : CacheHolds t₁ s₁ held
  pub second : CacheHolds t₂ s₂ held
  pub only : (c d : Cache) → CacheHolds t₁ s₁ c → CacheHolds t₂ s₂ d → c ≡ d

pub hold_same : (t₁ t₂ : CacheTables) (s₁ s₂ : State) (c : Cache) → CacheHolds t₁ s₁ c → CacheHolds t₂ s₂ c → HoldSame t₁ s₁ t₂ s₂
hold_same t₁ t₂ s₁ s₂ c h k = record {
  held = c;
  first = h;
  second = k;
  only = λ x y p q. cache_holds_one t₁ s₁ x c p h ∙ cache_holds_one t₂ s₂ c y k q;
}

-- the same bytes, up to the same place, and the same cache
pub record TraceAgree (out₁ : List ℕ) (r₁ : ℕ) (t₁ : CacheTables) (s₁ : State) (out₂ : List ℕ) (r₂ : ℕ) (t₂ : CacheTables) (s₂ : State) : Type 0 where
  pub ends : r₁ ≡ r₂
  pub printed : take r₁ out₁ ≡ take r₂ out₂
  pub same : HoldSame t₁ s₁ t₂ s₂

pub prints_agree : (f : Cache → Line × Cache) (t : CacheTables) (s : State) (out : List ℕ) (at : ℕ) (c : Cache) → CacheHolds t s c →
    (t₁ t₂ : CacheTables) (s₁ s₂ : State) (out₁ out₂ : List ℕ) (r₁ r₂ : ℕ) → RecordPrints f t s out at t₁ s₁ out₁ r₁ → RecordPrints f t s out at t₂ s₂ out₂ r₂ →
    TraceAgree out₁ r₁ t₁ s₁ out₂ r₂ t₂ s₂
prints_agree f t s out at c h t₁ t₂ s₁ s₂ out₁ out₂ r₁ r₂ a b =
    let x = a c h in
    let y = b c h in
    let written = writes_agree out at (text (f c).0) out₁ out₂ r₁ r₂ x.0.writes y.0.writes in
    record { ends = written.0; printed = written.1; same = hold_same t₁ t₂ s₁ s₂ (f c).1 x.1 y.1 }
