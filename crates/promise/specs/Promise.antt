-- The shape of every promise, for any kind of lent tables: what may be read from them, and what a call then answers and leaves. A public
-- call takes any tables; it names one of its kind's calls on ledgers, and the rest is said here once.
use Rattle.std.specs.Prelude.{◌≡◌, ℕ, ◌≤◌, ◌<◌, Result, Ok, Err}
use Rattle.numbers.specs.Marks.{LIMIT}
use Rattle.numbers.specs.declared.Refusal.{Refusal}
use Rattle.numbers.specs.declared.Refusal.TheVariants.{Corrupt, Short, Capacity}
use Rattle.ledger.specs.Buckets.{Reply, refused}

-- A kind of lent tables: the tables, the state, the ledgers they hold; the capacity that the state asks for, whether the tables have
-- the lengths that a capacity calls for, and the ledger that they hold; and the calls, each a function on ledgers.
pub record Lent : Type 1 where
  pub Tables : Type 0
  pub State : Type 0
  pub Ledger : Type 0
  pub Call : Type 0
  pub capacity : State → ℕ
  pub Fits : Tables → ℕ → Type 0
  pub Holds : Tables → State → Ledger → Type 0
  pub calls : Call → Ledger → Reply × Ledger

module _ (k : Lent) where
  -- On sound tables

  -- they hold some ledger
  abbrev pub Sound : k.Tables → k.State → Type 0
  Sound t s = (l : k.Ledger) × k.Holds t s l

  -- the ledger's own answer, and the ledger after it; where that is a refusal, all stays
  pub record DoesOn (f : k.Ledger → Reply × k.Ledger) (t : k.Tables) (s : k.State) (l : k.Ledger) (r : Reply) (t' : k.Tables) (s' : k.State) : Type 0 where
    pub answer : r ≡ (f l).0
    pub holds : k.Holds t' s' (f l).1
    pub leaves : (a : Refusal) → r ≡ refused a → (t' ≡ t) × (s' ≡ s)

  -- a call does what f does to whatever ledger the tables hold
  abbrev pub Does : (k.Ledger → Reply × k.Ledger) → k.Tables → k.State → Reply → k.Tables → k.State → Type 0
  Does f t s r t' s' = (l : k.Ledger) → k.Holds t s l → DoesOn f t s l r t' s'

  -- one that only answers
  abbrev pub Tells : (k.Ledger → Reply × k.Ledger) → k.Tables → k.State → Reply → Type 0
  Tells f t s r = (l : k.Ledger) → k.Holds t s l → r ≡ (f l).0

  -- A call may be lent some of the tables only: `t` gives the whole tables for those that are not lent. With some of them they are sound
  abbrev pub SoundBeside : {A : Type 0} → (A → k.Tables) → k.State → Type 0
  SoundBeside {A} t s = (a : A) × Sound (t a) s

  -- and whatever those are, the call does what f does
  abbrev pub DoesBeside : {A : Type 0} → (k.Ledger → Reply × k.Ledger) → (A → k.Tables) → k.State → Reply → (A → k.Tables) → k.State → Type 0
  DoesBeside {A} f t s r t' s' = (a : A) → Does f (t a) s r (t' a) s'

  -- On any tables

  -- what may be read from tables and state, in document 01's order
  pub data Reading : Type 0 where
    over : Reading
    short : Reading
    corrupt : Reading
    ledger : k.Ledger → Reading

  abbrev pub Reads : k.Tables → k.State → Reading → Type 0
  Reads t s over = LIMIT < k.capacity s
  Reads t s short = (k.capacity s ≤ LIMIT) × (k.Fits t (k.capacity s) → ⊥)
  Reads t s corrupt = (k.capacity s ≤ LIMIT) × k.Fits t (k.capacity s) × ((l : k.Ledger) → k.Holds t s l → ⊥)
  Reads t s (ledger l) = (k.capacity s ≤ LIMIT) × k.Fits t (k.capacity s) × k.Holds t s l

  -- a refusal: all tables and the state stay as they were
  pub record Refuses (t : k.Tables) (s : k.State) (r : Reply) (t' : k.Tables) (s' : k.State) (why : Refusal) : Type 0 where
    pub answer : r ≡ refused why
    pub tables : t' ≡ t
    pub state : s' ≡ s

  abbrev pub By : (k.Ledger → Reply × k.Ledger) → k.Tables → k.State → Reply → k.Tables → k.State → Reading → Type 0
  By f t s r t' s' over = Refuses t s r t' s' Capacity
  By f t s r t' s' short = Refuses t s r t' s' Short
  By f t s r t' s' corrupt = Refuses t s r t' s' Corrupt
  By f t s r t' s' (ledger l) = DoesOn f t s l r t' s'

  -- a call that carries out f: by what is read
  abbrev pub Promised : (k.Ledger → Reply × k.Ledger) → k.Tables → k.State → Reply → k.Tables → k.State → Type 0
  Promised f t s r t' s' = (v : Reading) × Reads t s v × By f t s r t' s' v

  -- A public call: it does what the ledger's call does, or says why not.
  abbrev pub Makes : k.Call → k.Tables → k.State → Reply → k.Tables → k.State → Type 0
  Makes c t s r t' s' = Promised (k.calls c) t s r t' s'

  -- one that only answers
  abbrev pub Answers : k.Call → k.Tables → k.State → Reply → Type 0
  Answers c t s r = Makes c t s r t s

  -- what a check of the tables answers: that they hold a ledger, or why every call is refused
  abbrev pub checked_of : Reading → Result Unit Refusal
  checked_of over = Err Capacity
  checked_of short = Err Short
  checked_of corrupt = Err Corrupt
  checked_of (ledger l) = Ok tt

  abbrev pub Checks : k.Tables → k.State → Result Unit Refusal → Type 0
  Checks t s a = (v : Reading) × Reads t s v × (a ≡ checked_of v)
