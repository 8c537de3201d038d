-- The levels as a list, from the lowest frequency up, and what each call does to them.
use Rattle.std.specs.Prelude.{cond, List, [], ◌∷◌, ◌++◌, ℕ, ◌+◌, ◌<◌, ◌≤◌, length, eqb, ltb, leb}
use Rattle.numbers.specs.Marks.{NONE}
use Rattle.numbers.specs.Frequency.{CEILING}
use Rattle.lists.specs.Lists.{All, Without, final, sum}

-- a frequency, and the slots that have it, head first
pub record Level : Type 0 where
  pub freq : ℕ
  pub slots : List ℕ

abbrev pub level : ℕ → List ℕ → Level
level f xs = record { freq = f; slots = xs }

-- the slots of all levels
abbrev pub members : List Level → List ℕ
members [] = []
members (l ∷ ls) = l.slots ++ members ls

-- x is in no level
abbrev pub Nowhere : ℕ → List Level → Type 0
Nowhere x ls = All (λ l. Without x l.slots) ls

-- the frequencies rise from above f on to at most the ceiling, and no level is empty
abbrev pub LevelsRise : ℕ → List Level → Type 0
LevelsRise f [] = Unit {0}
LevelsRise f (l ∷ ls) = (f < l.freq) × (l.freq ≤ CEILING) × (0 < length l.slots) × LevelsRise l.freq ls

-- the level f in front, unless it has no slot
abbrev pub keep : ℕ → List ℕ → List Level → List Level
keep f [] ls = ls
keep f (y ∷ ys) ls = level f (y ∷ ys) ∷ ls

-- x at the head of level f, which is the first one or is made
abbrev pub join : ℕ → ℕ → List Level → List Level
join x f [] = level f (x ∷ []) ∷ []
join x f (l ∷ ls) = cond (eqb l.freq f) (level f (x ∷ l.slots) ∷ ls) (level f (x ∷ []) ∷ l ∷ ls)

-- a touch of x, whose level f has the other slots zs and the levels ls above it: below the cap x goes to the head of the level one higher,
-- else to the head of its own
abbrev pub touched : ℕ → ℕ → ℕ → List ℕ → List Level → List Level
touched cap x f zs ls = cond (ltb f cap) (keep f zs (join x (f + 1) ls)) (level f (x ∷ zs) ∷ ls)

-- the head of a list, NONE where it is empty
abbrev pub first : List ℕ → ℕ
first [] = NONE
first (x ∷ xs) = x

-- the slot at the tail of the lowest level, NONE where there is no level
abbrev pub lowest : List Level → ℕ
lowest [] = NONE
lowest (l ∷ ls) = final NONE l.slots

-- the lowest frequency, 0 where there is no level
abbrev pub lowest_frequency : List Level → ℕ
lowest_frequency [] = 0
lowest_frequency (l ∷ ls) = l.freq

-- the head of level f, NONE where it is not in use
abbrev pub head_of : ℕ → List Level → ℕ
head_of f [] = NONE
head_of f (l ∷ ls) = cond (eqb l.freq f) (first l.slots) (head_of f ls)

-- the slots of level f, none where it is not in use
abbrev pub slot_list : ℕ → List Level → List ℕ
slot_list f [] = []
slot_list f (l ∷ ls) = cond (eqb l.freq f) l.slots (slot_list f ls)

-- how many slots level f has, 0 where it is not in use
abbrev pub count_of : ℕ → List Level → ℕ
count_of f ls = length (slot_list f ls)

-- how many slots lie at or below f: those of all levels up to f
abbrev pub count_up_to : ℕ → List Level → ℕ
count_up_to f ls = sum (λ l. cond (leb l.freq f) (length l.slots) 0) ls
