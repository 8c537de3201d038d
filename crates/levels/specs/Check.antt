-- What the loops of the check find.
use Rattle.std.specs.Prelude.{◌≡◌, Bool, true, not, List, ℕ, ◌+◌, ◌*◌, ◌<◌, ◌≤◌, length, get_or, eqb, Option, Some, None}
use Rattle.lists.specs.Marks.{count}
use Rattle.bucket_table.specs.Records.{WORDS, owner, row_of, RecordsSound}
use Rattle.bucket_table.specs.declared.Buckets.{Buckets}
use Rattle.levels.specs.Held.{tabs, line, LineHeld, Free, Even, LevelsSound}

-- slot k is not marked free
abbrev pub taken : List ℕ → ℕ → Bool
taken n k = not (eqb (get_or n k 0) k)

-- if slot k is marked free, then it has nothing else in its cells
abbrev pub CleanSlot : List ℕ → List ℕ → List ℕ → ℕ → Type 0
CleanSlot f p n k = get_or n k 0 ≡ k → Free f p n k

-- so it is for all slots below m
abbrev pub Clean : List ℕ → List ℕ → List ℕ → ℕ → Type 0
Clean f p n m = (k : ℕ) → k < m → CleanSlot f p n k

-- four tables whose sizes fit
pub record LevelsSized (f p n b : List ℕ) : Type 0 where
  pub even : Even f p n
  pub size : length b ≡ length f * WORDS

-- with some spare records this table holds rows
abbrev pub SomeRecords : List ℕ → Buckets → Type 0
SomeRecords b s = (sp : List ℕ) × RecordsSound b sp s

-- x can come after `at` in the list of record r, of frequency g
pub record SlotOk (f p b : List ℕ) (r g at x : ℕ) : Type 0 where
  pub slot : x < length f
  pub back : get_or p x 0 ≡ at
  pub freq_is : get_or f x 0 ≡ g
  pub own_is : owner b x ≡ r

-- the slots of record r, as the table has it
pub record ListedSo (f p n b : List ℕ) (r : ℕ) (xs : List ℕ) : Type 0 where
  pub held : LineHeld f p n b (line (row_of b r) xs)
  pub some : 0 < length xs

-- record r has slots, and the walk takes them from `left`; or it has none, or more than `left`
abbrev pub ListWalk : (f p n b : List ℕ) → (r left : ℕ) → Option ℕ → Type 0
ListWalk f p n b r left (Some rest) = (xs : List ℕ) × ListedSo f p n b r xs × (left ≡ rest + length xs)
ListWalk f p n b r left None = (xs : List ℕ) → ListedSo f p n b r xs → length xs ≤ left → ⊥

-- the walk says yes exactly where there are levels with as many slots as are not marked free
pub record LevelsWalk (f p n b : List ℕ) (s : Buckets) (bound : ℕ) (ok : Bool) : Type 0 where
  pub good : (sp : List ℕ) → bound ≡ count (taken n) (length n) → Clean f p n (length f) → RecordsSound b sp s → length sp ≡ length f → ok ≡ true → LevelsSound (tabs f p n b sp) s
  pub all : (sp : List ℕ) → bound ≡ count (taken n) (length n) → LevelsSound (tabs f p n b sp) s → ok ≡ true
