-- What the calls on sound tables do: the state's own steps, and the shape of every promise.
use Rattle.std.specs.Prelude.{◌≡◌, ℕ, ◌+◌, ◌*◌, ◌%◌, ◌^◌, ◌<◌, ◌≤◌, List, ◌∷◌, length, slice_set}
use Rattle.std.proofs.Math.Option.{none}
use Rattle.numbers.specs.Marks.{LIMIT}
use Rattle.numbers.specs.Frequency.{CEILING, raised}
use Rattle.numbers.specs.declared.Slot.{Slot}
use Rattle.numbers.specs.declared.Frequency.{Frequency}
use Rattle.lists.specs.Lists.{In}
use Rattle.ledger.specs.Ledger.{Ledger, Item, new, items, lookup, put, release, move, restart}
use Rattle.links.specs.Chain.{cells}
use Rattle.slot_arena.specs.declared.Order.{Order}
use Rattle.bucket_table.specs.declared.Buckets.{Buckets}
use Rattle.bucket_table.specs.Records.{WORDS}
use Rattle.levels.specs.Held.{Tabs, tabs}
use Rattle.key_index.specs.Index as index
use Rattle.key_index.specs.Index.{IndexSound}
use Rattle.buckets_tables.specs.declared.State.{State}
use Rattle.buckets_tables.specs.declared.Guests.{Guests}
use Rattle.buckets_tables.specs.Slices.{joined}
use Rattle.buckets_tables.specs.Tables.{Tables, Sized}
use Rattle.buckets_tables.specs.Holds.{BoundSlot, Holds}

-- the state with another count, lowest frequency, free order and bucket records
abbrev pub recounted : State → ℕ → ℕ → Order → Buckets → State
recounted s n low o b = record { capacity = s.capacity; count = n; lowest = low; epoch = s.epoch; free = o; buckets = b }

-- the state at another epoch
abbrev pub dated : State → ℕ → State
dated s n = record { capacity = s.capacity; count = s.count; lowest = s.lowest; epoch = n; free = s.free; buckets = s.buckets }

-- 2^64 - 1 goes to 0
abbrev pub next_epoch : ℕ → ℕ
next_epoch n = (n + 1) % (2 ^ 64)

-- Parts of the calls. Each says what it does to every ledger that the tables hold.

-- the key is absent, and the first slot of the free order is there for it
pub record Room (t : Tables) (s : State) (key : ℕ) : Type 0 where
  pub ledger : Ledger
  pub rest : List ℕ
  pub holds : Holds t s ledger
  pub absent : lookup key ledger ≡ none
  pub free_is : ledger.free ≡ s.free.first ∷ rest

-- the key is bound in the first slot of the free order
pub record Binds (t : Tables) (s : State) (key : ℕ) (t' : Tables) (x : Slot) (s' : State) : Type 0 where
  pub slot : x.0 ≡ s.free.first
  pub holds : (l : Ledger) (rest : List ℕ) → Holds t s l → lookup key l ≡ none → l.free ≡ s.free.first ∷ rest →
      Holds t' s' (put key s.free.first rest l)

-- the tables hold a ledger in which slot x is bound
pub record BoundIn (t : Tables) (s : State) (x : ℕ) : Type 0 where
  pub ledger : Ledger
  pub holds : Holds t s ledger
  pub bound : BoundSlot ledger x

-- the same for epochs and levels, with some keys, arena and index that are not lent
abbrev pub Hittable : (epochs : List ℕ) → Tabs → State → ℕ → Type 0
Hittable e l s x = (g : Guests (List ℕ)) × BoundIn (joined g e l) s x

-- the item in slot x is hit, up to a cap
pub record Hits (e : List ℕ) (l : Tabs) (s : State) (x cap : ℕ) (e' : List ℕ) (l' : Tabs) (f : Frequency) (s' : State) : Type 0 where
  pub answer : (g : Guests (List ℕ)) (d : Ledger) (y : Item) → Holds (joined g e l) s d → In y (items d.levels) → y.slot ≡ x → f.0 ≡ raised cap y.frequency
  pub holds : (g : Guests (List ℕ)) (d : Ledger) (y : Item) → Holds (joined g e l) s d → In y (items d.levels) → y.slot ≡ x → cap ≤ CEILING →
      Holds (joined g e' l') s' (move y (raised cap y.frequency) d)

-- the item in slot x starts again
pub record Restarts (e : List ℕ) (l : Tabs) (s : State) (x : ℕ) (e' : List ℕ) (l' : Tabs) (s' : State) : Type 0 where
  pub holds : (g : Guests (List ℕ)) (d : Ledger) (y : Item) → Holds (joined g e l) s d → In y (items d.levels) → y.slot ≡ x →
      Holds (joined g e' l') s' (restart y d)

-- the item in slot x is let go
pub record LetsGo (t : Tables) (s : State) (x : ℕ) (t' : Tables) (s' : State) : Type 0 where
  pub holds : (l : Ledger) (y : Item) → Holds t s l → In y (items l.levels) → y.slot ≡ x → Holds t' s' (release y l)

-- a slot of the entry tables that is not in the index
pub record Vacant (k e i : List ℕ) (x : ℕ) : Type 0 where
  pub index_sound : IndexSound i k
  pub slot : (x < length k) × (x < length e)
  pub out : index.Has i k x → ⊥

-- key and epoch written to a slot, which is in the index under that key
pub record EntersIndex (k e i : List ℕ) (x key epoch : ℕ) (k' e' i' : List ℕ) : Type 0 where
  pub keys_are : k' ≡ slice_set k x key
  pub epochs_are : e' ≡ slice_set e x epoch
  pub index_is : index.Inserts i k' x i'

-- a slot taken out of the index, and its key and epoch cleared
pub record LeavesIndex (k e i : List ℕ) (x : ℕ) (k' e' i' : List ℕ) : Type 0 where
  pub keys_are : k' ≡ slice_set k x 0
  pub epochs_are : e' ≡ slice_set e x 0
  pub index_is : index.Removes i k x i'

-- Making and clearing

-- a table of zeros, as long as it was
pub record Wiped (t t' : List ℕ) : Type 0 where
  pub size : length t' ≡ length t
  pub zero : (i : ℕ) → cells t' i ≡ 0

-- eight tables have the lengths that a capacity calls for; the bucket table is not lent
pub record Fitting (g : Guests (List ℕ)) (e f p n sp : List ℕ) (c : ℕ) : Type 0 where
  pub limit : c ≤ LIMIT
  pub sized : (b : List ℕ) → length b ≡ c * WORDS → Sized (joined g e (tabs f p n b sp)) c

-- the tables hold a new ledger, whatever the bucket table has
abbrev pub Cleared : Guests (List ℕ) → (epochs freqs prevs nexts spares : List ℕ) → ℕ → State → Type 0
Cleared g e f p n sp c s = (b : List ℕ) → length b ≡ c * WORDS → Holds (joined g e (tabs f p n b sp)) s (new c)
