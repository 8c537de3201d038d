-- A promise of the cache leaves no choice: two results that it allows give the same reply, and have the same tables and state, or hold
-- the same cache, with the same values and the same number in every cell that a ledger determines.
use mathlib.Core.Path.{◌≡◌, sym, ◌∙◌}
use mathlib.Core.Logic.{◌⊎◌, inl, inr, ⊎_elim}
use Prim.Native.Nat.{ℕ}
use Rattle.std.proofs.Common.{Result, Ok}
use Rattle.numbers.specs.declared.Refusal.{Refusal}
use Rattle.ledger.specs.Buckets.{Reply}
use Rattle.ledger.specs.Cache.{Cache, new_cache}
use Rattle.ledger.specs.CacheCalls.{CacheOutcome}
use Rattle.promise.specs.Promise.{Promised}
use Rattle.promise.specs.Making.{Made}
use Rattle.promise.proofs.Agree.{promised_agree, made_agree}
use Rattle.buckets_tables.specs.declared.State.{State}
use Rattle.buckets_tables.proofs.Determined.{Same, determined}
use Rattle.cache_tables.specs.Tables.{CacheTables, CacheHolds}
use Rattle.cache_tables.specs.Lent.{cache}
use Rattle.cache_tables.proofs.Cached.{cache_holds_one}

-- one cache is held by both; only what docs/PLACEMENT.md lists may differ
pub record HoldOne (t : CacheTables) (s : State) (u : CacheTables) (z : State) : Type 0 where
  pub held : Cache
  pub first : CacheHolds t s held
  pub second : CacheHolds u z held
  pub cells : Same t.base u.base s z
  pub values : t.values ≡ u.values

pub record CacheAgree (r : Reply) (t : CacheTables) (s : State) (q : Reply) (u : CacheTables) (z : State) : Type 0 where
  pub reply : r ≡ q
  pub after : ((t ≡ u) × (s ≡ z)) ⊎ HoldOne t s u z

hold_one : (t u : CacheTables) (s z : State) (c : Cache) → CacheHolds t s c → CacheHolds u z c → HoldOne t s u z
hold_one t u s z c h k = record {
  held = c;
  first = h;
  second = k;
  cells = determined t.base u.base s z c.table h.table k.table;
  values = h.values ∙ sym k.values;
}

module _ (r q : Reply) (t u : CacheTables) (s z : State) where
  alike : ((t ≡ u) × (s ≡ z)) ⊎ ((c : Cache) × CacheHolds t s c × CacheHolds u z c) → ((t ≡ u) × (s ≡ z)) ⊎ HoldOne t s u z
  alike (inl e) = inl e
  alike (inr h) = inr (hold_one t u s z h.0 h.1 h.2)

  -- every call, single or batch
  pub promises_agree : (f : Cache → CacheOutcome) (t₀ : CacheTables) (s₀ : State) → Promised cache f t₀ s₀ r t s → Promised cache f t₀ s₀ q u z → CacheAgree r t s q u z
  promises_agree f t₀ s₀ x y = let a = promised_agree cache cache_holds_one f t₀ s₀ r q t u s z x y in record { reply = a.reply; after = alike a.after }

-- and making the tables: the same refusal and the same tables, or one cache is held by both
pub news_agree : (c : ℕ) (t : CacheTables) (r q : Result State Refusal) (t' u' : CacheTables) → Made cache (new_cache c) c t r t' → Made cache (new_cache c) c t q u' →
    ((r ≡ q) × (t' ≡ u')) ⊎ ((s z : State) × (r ≡ Ok s) × (q ≡ Ok z) × HoldOne t' s u' z)
news_agree c t r q t' u' x y =
    ⊎_elim (λ w. inl (w.1 ∙ sym w.2, w.3)) (λ w. inr (w.0, w.1, w.2, w.3, hold_one t' u' w.0 w.1 w.4.0 w.4.1 w.4.2))
    (made_agree cache cache_holds_one (new_cache c) c t r q t' u' x y).after
