-- Binding a key that is not bound, in a free slot or in the slot of a key that goes.
use Rattle.std.specs.Prelude.{Result, Ok, Err, ◌≡◌, List, ℕ, set}
use Rattle.std.proofs.Math.Option.{none}
use Rattle.numbers.specs.Marks.{NONE}
use Rattle.numbers.specs.declared.Refusal.{Refusal}
use Rattle.numbers.specs.declared.Slot.{Slot}
use Rattle.ledger.specs.Ledger.{Ledger, lookup}
use Rattle.ledger.specs.History.{Insert}
use Rattle.ledger.specs.CacheCalls.{cache_calls}
use Rattle.promise.specs.Promise.{Sound, Does}
use Rattle.buckets_tables.specs.declared.State.{State}
use Rattle.buckets_tables.specs.Tables.{Tables}
use Rattle.buckets_tables.specs.Holds.{Holds}
use Rattle.buckets_tables.specs.Lent.{buckets}
use Rattle.answers.specs.Replies.{insertion_reply}
use Rattle.cache_tables.specs.Tables.{with_values}
use Rattle.cache_tables.specs.Lent.{cache}
use Rattle.answers.specs.declared.Insertion.{Insertion}

-- the key is not bound
pub record KeyAbsent (t : Tables) (s : State) (key : ℕ) : Type 0 where
  pub sound : Sound buckets t s
  pub missed : (l : Ledger) → Holds t s l → lookup key l ≡ none

-- and no slot is free
pub record NoRoom (t : Tables) (s : State) (key : ℕ) : Type 0 where
  pub unbound : KeyAbsent t s key
  pub full : s.free.first ≡ NONE

-- what was answered, and the values once the key's own is stored in the slot that it was bound in
abbrev pub how : Result (Slot × Insertion) Refusal → Result Insertion Refusal
how (Ok p) = Ok p.1
how (Err why) = Err why

abbrev pub stored : (values : List ℕ) → ℕ → Result (Slot × Insertion) Refusal → List ℕ
stored vs v (Ok p) = set vs p.0.0 v
stored vs v (Err why) = vs

-- what an insert does, once the value is stored
abbrev pub CacheEnters : (key : ℕ) → Tables → State → Result (Slot × Insertion) Refusal → Tables → State → Type 0
CacheEnters key t s r t' s' =
    (vs : List ℕ) (v : ℕ) → Does cache (cache_calls (Insert key v)) (with_values t vs) s (insertion_reply (how r)) (with_values t' (stored vs v r)) s'
