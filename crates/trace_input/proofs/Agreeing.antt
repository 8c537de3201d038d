-- A part of an input, and a whole one, leave no choice: two results that the contract allows print the same bytes, and a part's tables hold one
-- and the same cache.
use mathlib.Core.Path.{◌≡◌, sym, ap, ◌∙◌}
use mathlib.Core.List.{List}
use Prim.Native.Nat.{ℕ, ◌≤◌}
use lib.ListN.{length, take}
use lib.Seq.{length-take-le}
use Rattle.ledger.specs.Cache.{Cache}
use Rattle.buckets_tables.specs.declared.State.{State}
use Rattle.cache_tables.specs.Tables.{CacheTables, CacheHolds}
use Rattle.trace_record.proofs.Agreeing.{TraceAgree, hold_same}
use Rattle.trace_input.specs.Feeding.{part_run}
use Rattle.trace_input.specs.Parts.{Parts, InputShows}

-- the same bytes end at the same place
module _ (out₁ out₂ : List ℕ) (r₁ r₂ : ℕ) where
  ends_agree : r₁ ≤ length out₁ → r₂ ≤ length out₂ → take r₁ out₁ ≡ take r₂ out₂ → r₁ ≡ r₂
  ends_agree p q e = sym (length-take-le r₁ out₁ p) ∙ ap length e ∙ length-take-le r₂ out₂ q

  pub whole_agree : (bytes : List ℕ) → InputShows bytes out₁ r₁ → InputShows bytes out₂ r₂ → (r₁ ≡ r₂) × (take r₁ out₁ ≡ take r₂ out₂)
  whole_agree bytes a b = let same = a.printed ∙ sym b.printed in (ends_agree a.room b.room same, same)

pub parts_agree : (t : CacheTables) (s : State) (input : List ℕ) (n : ℕ) (c : Cache) → CacheHolds t s c →
    (t₁ t₂ : CacheTables) (s₁ s₂ : State) (out₁ out₂ : List ℕ) (r₁ r₂ : ℕ) → Parts t s input n t₁ s₁ out₁ r₁ → Parts t s input n t₂ s₂ out₂ r₂ →
    TraceAgree out₁ r₁ t₁ s₁ out₂ r₂ t₂ s₂
parts_agree t s input n c h t₁ t₂ s₁ s₂ out₁ out₂ r₁ r₂ a b =
    let x = a.prints c h in
    let y = b.prints c h in
    let same = x.printed ∙ sym y.printed in
    record {
      ends = ends_agree out₁ out₂ r₁ r₂ a.room b.room same;
      printed = same;
      same = hold_same t₁ t₂ s₁ s₂ (part_run c (take n input)).cache x.holds y.holds;
    }
