-- The ledger of document 01, the changes that all calls are made of, and what it means that a ledger is well formed.
use Rattle.std.specs.Prelude.{◌≡◌, cond, List, [], ◌∷◌, ◌++◌, ℕ, ◌+◌, ◌≤◌, ◌<◌, length, eqb, ltb}
use Rattle.std.proofs.Math.Option.{Option, none, some}
use Rattle.numbers.specs.Frequency.{FIRST, CEILING}
use Rattle.lists.specs.Lists.{from, sum, one, times}

-- a bound key, its slot, and its last epoch
pub record Entry : Type 0 where
  pub key : ℕ
  pub slot : ℕ
  pub epoch : ℕ

-- a frequency in use, and the list of its keys, head first
pub record Level : Type 0 where
  pub frequency : ℕ
  pub entries : List Entry

-- the levels from the lowest frequency up; the free slots in the order in which they are handed out
pub record Ledger : Type 0 where
  pub capacity : ℕ
  pub epoch : ℕ
  pub levels : List Level
  pub free : List ℕ

-- all slots free in order 0, 1, 2 and so on; epoch 0
abbrev pub new : ℕ → Ledger
new c = record { capacity = c; epoch = 0; levels = []; free = from 0 c }

-- Reading a ledger

-- an entry with its frequency
pub record Item : Type 0 where
  pub key : ℕ
  pub frequency : ℕ
  pub slot : ℕ
  pub epoch : ℕ

abbrev pub item : ℕ → Entry → Item
item f e = record { key = e.key; frequency = f; slot = e.slot; epoch = e.epoch }

-- the entries of one list, in front of further items
abbrev pub tag : ℕ → List Entry → List Item → List Item
tag f [] xs = xs
tag f (e ∷ es) xs = item f e ∷ tag f es xs

-- all entries, from the lowest level up, each list head first
abbrev pub items : List Level → List Item
items [] = []
items (l ∷ ls) = tag l.frequency l.entries (items ls)

-- the first item with the key k
abbrev pub found : ℕ → List Item → Option Item
found k [] = none
found k (x ∷ xs) = cond (eqb x.key k) (some x) (found k xs)

-- what the ledger holds of a key
abbrev pub lookup : ℕ → Ledger → Option Item
lookup k l = found k (items l.levels)

-- by what is found: a where there is nothing, else what f makes of the item
abbrev pub if_found : {A : Type 0} → Option Item → A → (Item → A) → A
if_found none a f = a
if_found (some x) a f = f x

-- how many keys are bound
abbrev pub size : Ledger → ℕ
size l = length (items l.levels)

-- the last of a list
abbrev pub tail : ℕ → List Entry → Option Item
tail f [] = none
tail f (e ∷ []) = some (item f e)
tail f (e ∷ (d ∷ es)) = tail f (d ∷ es)

-- the tail of the lowest list
abbrev pub lowest : List Level → Option Item
lowest [] = none
lowest (l ∷ ls) = tail l.frequency l.entries

-- Changing a ledger

-- a list in front of the levels above it; an empty one is no level
abbrev pub level : ℕ → List Entry → List Level → List Level
level f [] ls = ls
level f (e ∷ es) ls = record { frequency = f; entries = e ∷ es } ∷ ls

-- an entry put at the head of the list of frequency f
abbrev pub link : ℕ → Entry → List Level → List Level
link f e [] = level f (e ∷ []) []
link f e (l ∷ ls) =
    let higher = l ∷ link f e ls in
    cond (ltb l.frequency f) higher
    (cond (eqb l.frequency f) (level f (e ∷ l.entries) ls) (level f (e ∷ []) (l ∷ ls)))

abbrev pub without : ℕ → List Entry → List Entry
without k [] = []
without k (e ∷ es) = cond (eqb e.key k) (without k es) (e ∷ without k es)

-- a key taken out of its list
abbrev pub unlink : ℕ → List Level → List Level
unlink k [] = []
unlink k (l ∷ ls) = level l.frequency (without k l.entries) (unlink k ls)

-- an absent key bound: the first frequency, the current epoch, the slot s, at the head of its list; `rest` stays free
abbrev pub put : ℕ → ℕ → List ℕ → Ledger → Ledger
put k s rest l = record {
  capacity = l.capacity;
  epoch = l.epoch;
  levels = link FIRST (record { key = k; slot = s; epoch = l.epoch }) l.levels;
  free = rest;
}

-- a bound key let go: its slot joins the free order at the back (document 02, K4)
abbrev pub release : Item → Ledger → Ledger
release x l = record {
  capacity = l.capacity;
  epoch = l.epoch;
  levels = unlink x.key l.levels;
  free = l.free ++ x.slot ∷ [];
}

-- a bound key moved to the head of the list of frequency f, its epoch refreshed
abbrev pub move : Item → ℕ → Ledger → Ledger
move x f l = record {
  capacity = l.capacity;
  epoch = l.epoch;
  levels = link f (record { key = x.key; slot = x.slot; epoch = l.epoch }) (unlink x.key l.levels);
  free = l.free;
}

-- a bound key starts again: at the head of list 1 with the current epoch; its slot and the free order stay (document 02, K4)
abbrev pub restart : Item → Ledger → Ledger
restart x l = record {
  capacity = l.capacity;
  epoch = l.epoch;
  levels = link FIRST (record { key = x.key; slot = x.slot; epoch = l.epoch }) (unlink x.key l.levels);
  free = l.free;
}

-- Well-formed ledgers

abbrev pub NonEmpty : List Entry → Type 0
NonEmpty [] = ⊥
NonEmpty (e ∷ es) = Unit {0}

-- the frequencies rise strictly from above f, to at most the ceiling, and no list is empty
abbrev pub Rising : ℕ → List Level → Type 0
Rising f [] = Unit {0}
Rising f (l ∷ ls) = (f < l.frequency) × (l.frequency ≤ CEILING) × NonEmpty l.entries × Rising l.frequency ls

-- how often a key, and a slot, stands among the items
abbrev pub keyed : ℕ → List Item → ℕ
keyed k xs = sum (λ x. one x.key k) xs

abbrev pub slotted : ℕ → List Item → ℕ
slotted s xs = sum (λ x. one x.slot s) xs

-- no key stands twice; each slot below the capacity stands exactly once among the bound and the free ones, and no other number does
pub record WellFormed (l : Ledger) : Type 0 where
  pub rising : Rising 0 l.levels
  pub keys : (k : ℕ) → keyed k (items l.levels) ≤ 1
  pub slots : (s : ℕ) → slotted s (items l.levels) + times s l.free ≡ cond (ltb s l.capacity) 1 0
