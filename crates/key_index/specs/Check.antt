-- What the loops of the check find out.
use Rattle.std.specs.Prelude.{◌≡◌, Bool, not, List, ℕ, ◌<◌, length, eqb, Option, Some, None}
use Rattle.lists.specs.Lists.{All, In, Distinct}
use Rattle.lists.specs.Marks.{count}
use Rattle.links.specs.Chain.{cells}
use Rattle.key_index.specs.Index.{slot_class, OUT, link_of, Has, Listed, IndexSound}

-- slot s may come next in the list of class c, after slot `last` if that is one
pub record Follows (keys : List ℕ) (c last s : ℕ) : Type 0 where
  pub class : slot_class keys s ≡ c
  pub larger : last < length keys → cells keys last < cells keys s

-- slot s is marked as in the index
abbrev pub marked : (index keys : List ℕ) → ℕ → Bool
marked index keys s = not (eqb (link_of index keys s) OUT)

-- how many slots are marked as in the index
abbrev pub in_index : (index keys : List ℕ) → ℕ
in_index index keys = count (marked index keys) (length keys)

-- the list of class c has so many slots, or there is none
abbrev pub CountsClass : (index keys : List ℕ) → (c : ℕ) → Option ℕ → Type 0
CountsClass index keys c (Some n) = (ss : List ℕ) × Listed index keys c ss × (length ss ≡ n)
CountsClass index keys c None = (ss : List ℕ) → Listed index keys c ss → ⊥

-- the slots ms are those of the lists of the classes below c
pub record Gathered (index keys : List ℕ) (c : ℕ) (ms : List ℕ) : Type 0 where
  pub below : All (λ s. slot_class keys s < c) ms
  pub distinct : Distinct ms
  pub inside : All (Has index keys) ms
  pub lists : (d : ℕ) → d < c → (ss : List ℕ) × Listed index keys d ss × ((s : ℕ) → In s ss → In s ms)
  pub origin : (s : ℕ) → In s ms → (ss : List ℕ) × Listed index keys (slot_class keys s) ss × In s ss

-- the lists of all classes have so many slots, or some class has no list
abbrev pub CountsAll : (index keys : List ℕ) → Option ℕ → Type 0
CountsAll index keys (Some n) = (ms : List ℕ) × Gathered index keys (length keys) ms × (length ms ≡ n)
CountsAll index keys None = IndexSound index keys → ⊥
