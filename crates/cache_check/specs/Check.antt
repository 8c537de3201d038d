-- What the steps of the check look at beside the tables of the buckets: the limit, and the values of the slots that are not in use.
use Rattle.std.specs.Prelude.{◌≡◌, cond, List, ℕ, ◌<◌, ltb, get_or}
use Rattle.numbers.specs.Marks.{LIMIT}
use Rattle.numbers.specs.declared.Refusal.{Refusal}
use Rattle.numbers.specs.declared.Refusal.TheVariants.{Short, Capacity}
use Rattle.slot_arena.specs.Arena.{InUse}

-- document 01's answer where lengths do not fit: CAPACITY comes before SHORT
abbrev pub short_of : ℕ → Refusal
short_of c = cond (ltb LIMIT c) Capacity Short

-- slot x may have the value v: any while it is in use, else 0
abbrev pub ValueAllowed : (arena : List ℕ) → (x v : ℕ) → Type 0
ValueAllowed arena x v = (InUse arena x → ⊥) → v ≡ 0

-- and so every slot below m
abbrev pub AllowedBelow : (arena values : List ℕ) → ℕ → Type 0
AllowedBelow arena values m = (x : ℕ) → x < m → ValueAllowed arena x (get_or values x 0)
