-- The promises of the two touches of document 01, on any nine tables and any state: at the cap 2^64 - 1 what the one allows the other allows.
use Rattle.std.proofs.Common.{◌≡◌, ℕ, ◌↔◌, sym, subst}
use mathlib.Core.Path.{fun_ext}
use Rattle.numbers.specs.Frequency.{CEILING}
use Rattle.ledger.specs.Ledger.{Ledger}
use Rattle.ledger.specs.Buckets.{Reply, Outcome}
use Rattle.ledger.specs.OldTouches.{plain_touch, capped_touch}
use Rattle.ledger.proofs.OldTouches.{old_touches_agree}
use Rattle.promise.specs.Promise.{Promised}
use Rattle.buckets_tables.specs.declared.State.{State}
use Rattle.buckets_tables.specs.Tables.{Tables}
use Rattle.buckets_tables.specs.Lent.{buckets}

pub old_promises_agree : (key : ℕ) (t : Tables) (s : State) (r : Reply) (t' : Tables) (s' : State) →
    Promised buckets (plain_touch key) t s r t' s' ↔ Promised buckets (capped_touch CEILING key) t s r t' s'
old_promises_agree key t s r t' s' =
    let same : capped_touch CEILING key ≡ plain_touch key = fun_ext (old_touches_agree key) in (
      subst (λ (f : Ledger → Outcome). Promised buckets f t s r t' s') (sym same),
      subst (λ (f : Ledger → Outcome). Promised buckets f t s r t' s') same,
    )
