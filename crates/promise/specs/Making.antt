-- Making tables of a capacity, whatever they hold: what the capacity and the tables' lengths come to, and what is then answered. For the
-- buckets and for the cache alike.
use Rattle.std.specs.Prelude.{◌≡◌, ℕ, ◌≤◌, ◌<◌, Result, Ok, Err}
use Rattle.numbers.specs.Marks.{LIMIT}
use Rattle.numbers.specs.declared.Refusal.{Refusal}
use Rattle.numbers.specs.declared.Refusal.TheVariants.{Short, Capacity}
use Rattle.promise.specs.Promise.{Lent}

module _ (k : Lent) where
  pub data Sizing : Type 0 where
    too_large : Sizing
    too_short : Sizing
    fitting : Sizing

  abbrev pub Sizes : k.Tables → ℕ → Sizing → Type 0
  Sizes t c too_large = LIMIT < c
  Sizes t c too_short = (c ≤ LIMIT) × (k.Fits t c → ⊥)
  Sizes t c fitting = (c ≤ LIMIT) × k.Fits t c

  -- what a look at the lengths answers
  abbrev pub measured_of : Sizing → Result Unit Refusal
  measured_of too_large = Err Capacity
  measured_of too_short = Err Short
  measured_of fitting = Ok tt

  abbrev pub Measures : k.Tables → ℕ → Result Unit Refusal → Type 0
  Measures t c a = (v : Sizing) × Sizes t c v × (a ≡ measured_of v)

  -- the state with which the tables hold a ledger; or a refusal, and all tables stay as they were
  abbrev pub MadeBy : k.Ledger → k.Tables → Result k.State Refusal → k.Tables → Sizing → Type 0
  MadeBy l t r t' too_large = (r ≡ Err Capacity) × (t' ≡ t)
  MadeBy l t r t' too_short = (r ≡ Err Short) × (t' ≡ t)
  MadeBy l t r t' fitting = (s' : k.State) × (r ≡ Ok s') × k.Holds t' s' l

  -- A call that makes the tables of capacity c, with the ledger l in them.
  abbrev pub Made : k.Ledger → ℕ → k.Tables → Result k.State Refusal → k.Tables → Type 0
  Made l c t r t' = (v : Sizing) × Sizes t c v × MadeBy l t r t' v
