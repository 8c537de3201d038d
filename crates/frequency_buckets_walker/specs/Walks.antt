-- What the walker's start, its step and the n-th slot of a walk promise: the ledger's walk as far as the slot goes. And what a walker shows
-- from where it stands.
use Rattle.std.specs.Prelude.{Result, Ok, Err, Option, Some, None, ◌≡◌, cond, List, [], ◌∷◌, ℕ, ◌-◌, eqb}
use Rattle.numbers.specs.declared.Refusal.{Refusal}
use Rattle.numbers.specs.declared.Refusal.TheVariants.{Absent}
use Rattle.numbers.specs.declared.Slot.{Slot}
use Rattle.ledger.specs.Ledger.{Ledger, Item}
use Rattle.ledger.specs.Buckets.{Outcome}
use Rattle.ledger.specs.Walk as ledger
use Rattle.promise.specs.Promise.{Sound, Promised}
use Rattle.buckets_tables.specs.declared.State.{State}
use Rattle.buckets_tables.specs.Tables.{Tables, tables}
use Rattle.buckets_tables.specs.Holds.{BoundSlot, Holds}
use Rattle.buckets_tables.specs.Lent as lent
use Rattle.answers.specs.Replies.{reached_reply}
use Rattle.buckets_walk.specs.Walks.{slot_of, Leads}
use Rattle.frequency_buckets_walker.specs.declared.Stand.{Stand}
use Rattle.frequency_buckets_walker.specs.Stands.{stand_of}

-- where the ledger's walk stands, as a reply with the slot alone
abbrev pub shows : ledger.Step → Ledger → Outcome
shows st l = (reached_reply (slot_of st), l)

-- the answer that a call on any tables promises
abbrev pub Reaches : Tables → State → (Ledger → ledger.Step) → Result (Option Slot) Refusal → Type 0
Reaches t s walk a = Promised lent.buckets (λ l. shows (walk l) l) t s (reached_reply a) t s

-- and where the walker stands then
pub record Stands (t : Tables) (s : State) (walk : Ledger → ledger.Step) (r : Stand) : Type 0 where
  pub promised : Reaches t s walk r.answer
  pub stands : r ≡ stand_of r.answer

-- the start of the walk of frequency g
abbrev pub Starts : Tables → State → ℕ → Stand → Type 0
Starts t s g r = Stands t s (ledger.start g) r

-- a step: where the link of the walker's slot leads
pub record Steps (n : List ℕ) (at r : Stand) : Type 0 where
  pub after : Result (Option Slot) Refusal
  pub leads : Leads n at.slot.0 after
  pub stands : r ≡ stand_of after

-- the links are lent: with some other tables and some state they are sound
abbrev pub Linked : List ℕ → Type 0
Linked n =
    (k : List ℕ) × (f : List ℕ) × (e : List ℕ) × (p : List ℕ) × (a : List ℕ) × (i : List ℕ) × (b : List ℕ) × (sp : List ℕ) × (s : State) × Sound lent.buckets (tables k f e p n a i b sp) s

-- a step over such links: every slot that it answers is bound, in whatever ledger they are the links of
pub record Onward (n : List ℕ) (at r : Stand) : Type 0 where
  pub steps : Steps n at r
  pub bound : (x : Slot) → r.answer ≡ Ok (Some x) → (k f e p a i b sp : List ℕ) (s : State) (l : Ledger) → Holds (tables k f e p n a i b sp) s l → BoundSlot l x.0

-- what stands at place n of a list, from 0 on: "no more" just past the last, and nowhere beyond
abbrev pub nth_of : List Item → ℕ → ledger.Step
nth_of [] n = cond (eqb n 0) ledger.no_more ledger.absent
nth_of (x ∷ xs) n = cond (eqb n 0) (ledger.here x) (nth_of xs (n - 1))

-- the walk of frequency g after n steps
abbrev pub Nth : Tables → State → (g n : ℕ) → Stand → Type 0
Nth t s g n r = Stands t s (λ l. nth_of (ledger.list_of g l.levels) n) r

-- over the links n, a walker that stands at r shows these items, then "no more", then ABSENT
abbrev pub Shows : List ℕ → Stand → List Item → Type 0
Shows n r [] = (r.answer ≡ Ok None) × ((q : Stand) → Steps n r q → q.answer ≡ Err Absent)
Shows n r (x ∷ xs) = (r.answer ≡ Ok (Some (record { 0 = x.slot }))) × ((q : Stand) → Steps n r q → Shows n q xs)
