-- How the public calls of the frequency buckets keep their promises, for every call at once; and that a promise leaves no choice.
use Rattle.std.proofs.Common.{◌≡◌, ℕ, ◌⊎◌, ap, sym, ◌∙◌, inl, inr, ⊎_elim, Result, Ok, Err}
use Rattle.numbers.specs.declared.Refusal.{Refusal}
use Rattle.ledger.specs.Ledger.{Ledger, new}
use Rattle.ledger.specs.Buckets.{Reply, refused}
use Rattle.ledger.specs.BucketCalls.{Query, BucketCall, Ask, calls, asks}
use Rattle.ledger.proofs.Kept.{queries_leave}
use Rattle.promise.specs.Promise.{Sound, Does, Tells, Makes, Answers, Checks}
use Rattle.promise.specs.Making.{Made}
use Rattle.promise.proofs.Agree.{Agree, promised_agree, MakingsAgree, made_agree}
use Rattle.promise.proofs.Promises as keeps
use Rattle.buckets_tables.specs.declared.State.{State}
use Rattle.buckets_tables.specs.Tables.{Tables}
use Rattle.buckets_tables.specs.Holds.{Holds}
use Rattle.buckets_tables.specs.Lent.{buckets}
use Rattle.buckets_tables.proofs.Read.{holds_one}
use Rattle.buckets_tables.proofs.Determined.{Same, determined}

module _ (t : Tables) (s : State) (a : Result Unit Refusal) (c : Checks buckets t s a) where
  pub checked : (u : Unit) → a ≡ Ok u → Sound buckets t s
  checked u e = keeps.sound_done buckets t s a c u e

  -- the call on sound tables does it
  pub makes : (call : BucketCall) (r : Reply) (t' : Tables) (s' : State) (u : Unit) → a ≡ Ok u → Does buckets (calls call) t s r t' s' → Makes buckets call t s r t' s'
  makes call r t' s' u e d = keeps.makes buckets t s a c call r t' s' u e d

  -- or tells it
  pub answers : (q : Query) (r : Reply) (u : Unit) → a ≡ Ok u → Tells buckets (asks q) t s r → Answers buckets (Ask q) t s r
  unfolding calls
  answers q r u e d = keeps.answers buckets t s a c (Ask q) (queries_leave q) r u e d

  -- the check's own refusal
  pub refuses : (call : BucketCall) (r : Reply) (why : Refusal) → a ≡ Err why → r ≡ refused why → Makes buckets call t s r t s
  refuses call r why e told = keeps.refuses buckets t s a c call r why e told

-- Two results that the promise of a call allows agree in the reply and in every cell that a ledger determines; and they have the same
-- tables and state, or hold the same ledger. Only what docs/PLACEMENT.md lists may differ.
pub record MakesAgree (r : Reply) (t : Tables) (s : State) (q : Reply) (u : Tables) (z : State) : Type 0 where
  pub agree : Agree buckets holds_one r t s q u z
  pub same : Same t u s z

same_after : (t u : Tables) (s z : State) → ((t ≡ u) × (s ≡ z)) ⊎ ((l : Ledger) × Holds t s l × Holds u z l) → Same t u s z
same_after t u s z (inl e) = record {
  keys = ap (λ v. v.keys) e.0;
  freqs = ap (λ v. v.freqs) e.0;
  epochs = ap (λ v. v.epochs) e.0;
  prevs = ap (λ v. v.prevs) e.0;
  nexts = ap (λ v. v.nexts) e.0;
  arena = ap (λ v. v.arena) e.0;
  capacity = ap (λ v. v.capacity) e.1;
  count = ap (λ v. v.count) e.1;
  lowest = ap (λ v. v.lowest) e.1;
  epoch = ap (λ v. v.epoch) e.1;
  free = ap (λ v. v.free) e.1;
}
same_after t u s z (inr h) = determined t u s z h.0 h.1 h.2

pub makes_agree : (call : BucketCall) (t : Tables) (s : State) (r q : Reply) (t' u' : Tables) (s' z' : State) →
    Makes buckets call t s r t' s' → Makes buckets call t s q u' z' → MakesAgree r t' s' q u' z'
makes_agree call t s r q t' u' s' z' x y =
    let a = promised_agree buckets holds_one (calls call) t s r q t' u' s' z' x y in
    record { agree = a; same = same_after t' u' s' z' a.after }

-- And two results of making tables: the same refusal and the same tables, or one ledger in both, and the same in every cell that it determines.
pub makings_agree : (c : ℕ) (t : Tables) (r q : Result State Refusal) (t' u' : Tables) → Made buckets (new c) c t r t' → Made buckets (new c) c t q u' →
    ((r ≡ q) × (t' ≡ u')) ⊎ ((s z : State) × (r ≡ Ok s) × (q ≡ Ok z) × ((l : Ledger) × Holds t' s l × Holds u' z l) × Same t' u' s z)
makings_agree c t r q t' u' x y =
    ⊎_elim (λ w. inl (w.1 ∙ sym w.2, w.3)) (λ w. inr (w.0, w.1, w.2, w.3, w.4, same_after t' u' w.0 w.1 (inr w.4)))
    (made_agree buckets holds_one (new c) c t r q t' u' x y).after
