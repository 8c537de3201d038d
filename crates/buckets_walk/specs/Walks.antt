-- What is told by walks that are lent only the tables that they read: the ledger's answer, for every table and state that may stand
-- beside what is lent.
use Rattle.std.specs.Prelude.{Result, Ok, Err, Option, Some, None, ◌≡◌, cond, List, ℕ, eqb, ltb, length}
use Rattle.numbers.specs.Marks.{NONE}
use Rattle.numbers.specs.declared.Refusal.{Refusal}
use Rattle.numbers.specs.declared.Refusal.TheVariants.{Absent}
use Rattle.numbers.specs.declared.Slot.{Slot}
use Rattle.ledger.specs.Ledger.{Ledger}
use Rattle.ledger.specs.Buckets.{Reply, Outcome}
use Rattle.ledger.specs.Walk as ledger
use Rattle.ledger.specs.Walk.{step}
use Rattle.promise.specs.Promise.{Tells, Sound}
use Rattle.links.specs.Chain.{cells}
use Rattle.buckets_tables.specs.declared.State.{State}
use Rattle.buckets_tables.specs.Tables.{tables}
use Rattle.buckets_tables.specs.Holds.{Holds}
use Rattle.buckets_tables.specs.Lent.{buckets}

-- the slot that the ledger's step stands at
abbrev pub slot_of : ledger.Step → Result (Option Slot) Refusal
slot_of (ledger.here x) = Ok (Some (record { 0 = x.slot }))
slot_of ledger.no_more = Ok None
slot_of ledger.absent = Err Absent

-- what the links say of slot x: nothing out of range, and nothing of a slot that is linked to itself; else the slot after it, if there is one
abbrev pub link_at : List ℕ → ℕ → Result (Option Slot) Refusal
link_at n x =
    cond (ltb x (length n))
    (cond (eqb (cells n x) x) (Err Absent) (cond (eqb (cells n x) NONE) (Ok None) (Ok (Some (record { 0 = cells n x })))))
    (Err Absent)

-- The links are lent: a step from slot x leads where they say, and that is where the ledger's step leads, whatever ledger it is that they are
-- the links of.
pub record Leads (n : List ℕ) (x : ℕ) (r : Result (Option Slot) Refusal) : Type 0 where
  pub cell : r ≡ link_at n x
  pub steps : (k f e p a i b sp : List ℕ) (s : State) (l : Ledger) → Holds (tables k f e p n a i b sp) s l → r ≡ slot_of (step x l)

-- keys, epochs, bucket records and the state are lent: with some other tables they are sound
abbrev pub Startable : (k e b : List ℕ) → State → Type 0
Startable k e b s = (f : List ℕ) × (p : List ℕ) × (n : List ℕ) × (a : List ℕ) × (i : List ℕ) × (sp : List ℕ) × Sound buckets (tables k f e p n a i b sp) s

abbrev pub OfStart : (k e b : List ℕ) → State → (Ledger → Outcome) → Reply → Type 0
OfStart k e b s call r = (f p n a i sp : List ℕ) → Tells buckets call (tables k f e p n a i b sp) s r

-- keys, frequencies, epochs and links are lent: with some other tables and some state they are sound
abbrev pub Walkable : (k f e n : List ℕ) → Type 0
Walkable k f e n = (p : List ℕ) × (a : List ℕ) × (i : List ℕ) × (b : List ℕ) × (sp : List ℕ) × (s : State) × Sound buckets (tables k f e p n a i b sp) s

abbrev pub OfStep : (k f e n : List ℕ) → (Ledger → Outcome) → Reply → Type 0
OfStep k f e n call r = (p a i b sp : List ℕ) (s : State) → Tells buckets call (tables k f e p n a i b sp) s r
