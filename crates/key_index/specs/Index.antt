-- What an index stands for, and what each call does to it. With C keys, `index[c]` is the first slot of class c, `index[C + s]` the slot after s in its class,
-- NONE at the last one, and OUT where slot s is not in the index.
use Rattle.std.specs.Prelude.{◌≡◌, ◌≢◌, ◌↔◌, ◌⊎◌, List, [], ◌∷◌, ℕ, ◌+◌, ◌≤◌, ◌<◌, length, get_or, Option, Some, None}
use Rattle.numbers.specs.Marks.{LIMIT}
use Rattle.numbers.specs.declared.Slot.{Slot}
use Rattle.lists.specs.Lists.{All, In}
use Rattle.links.specs.Chain.{Chain, cells}
use Rattle.key_index.specs.Class.{class_of}

-- the mark of a slot that is not in the index
abbrev pub OUT : ℕ
OUT = 4097

-- the word after slot s: the next slot of its class
abbrev pub link_of : (index keys : List ℕ) → ℕ → ℕ
link_of index keys s = get_or index (length keys + s) 0

-- slot s is in the index
abbrev pub Has : (index keys : List ℕ) → ℕ → Type 0
Has index keys s = (s < length keys) × (link_of index keys s ≢ OUT)

-- no slot in the index has this key
abbrev pub Absent : (index keys : List ℕ) → (key : ℕ) → Type 0
Absent index keys key = (s : ℕ) → Has index keys s → cells keys s ≢ key

-- each member has a smaller key than every later one
abbrev pub Ascending : (ℕ → ℕ) → List ℕ → Type 0
Ascending key [] = Unit {0}
Ascending key (s ∷ ss) = All (λ r. key s < key r) ss × Ascending key ss

-- the class of slot s is that of its key
abbrev pub slot_class : (keys : List ℕ) → ℕ → ℕ
slot_class keys s = class_of (cells keys s) (length keys)

-- class c has the slots ss, in strictly ascending order of their keys
pub record Listed (index keys : List ℕ) (c : ℕ) (ss : List ℕ) : Type 0 where
  pub chain : Chain (length keys) (link_of index keys) (get_or index c 0) ss
  pub ascending : Ascending (cells keys) ss
  pub classes : All (λ s. slot_class keys s ≡ c) ss

-- every class has a list, and every slot that is in the index is in the list of its class
pub record IndexSound (index keys : List ℕ) : Type 0 where
  pub limit : length keys ≤ LIMIT
  pub sized : length index ≡ length keys + length keys
  pub chains : (c : ℕ) → c < length keys → (ss : List ℕ) × Listed index keys c ss
  pub listed : (s : ℕ) → Has index keys s → (ss : List ℕ) × Listed index keys (slot_class keys s) ss × In s ss

-- `find`: a slot in the index with this key, or that there is none
abbrev pub Finds : (index keys : List ℕ) → (key : ℕ) → Option Slot → Type 0
Finds index keys key (Some s) = Has index keys s.0 × (cells keys s.0 ≡ key)
Finds index keys key None = Absent index keys key

-- `insert`: slot s is in too, if its key was not
pub record Inserts (index keys : List ℕ) (s : ℕ) (index' : List ℕ) : Type 0 where
  pub size : length index' ≡ length index
  pub sound : Absent index keys (cells keys s) → IndexSound index' keys
  pub has : Absent index keys (cells keys s) → (x : ℕ) → Has index' keys x ↔ ((x ≡ s) ⊎ Has index keys x)

-- `remove`: slot s is out, if it was in
pub record Removes (index keys : List ℕ) (s : ℕ) (index' : List ℕ) : Type 0 where
  pub size : length index' ≡ length index
  pub sound : Has index keys s → IndexSound index' keys
  pub has : Has index keys s → (x : ℕ) → Has index' keys x ↔ (Has index keys x × (x ≢ s))

-- `clear`: an index of the right size has no slot in it, whatever the keys are
pub record Clears (index index' : List ℕ) : Type 0 where
  pub size : length index' ≡ length index
  pub sound : (keys : List ℕ) → length keys ≤ LIMIT → length index ≡ length keys + length keys → IndexSound index' keys
  pub none : (keys : List ℕ) → length index ≡ length keys + length keys → (s : ℕ) → Has index' keys s → ⊥
