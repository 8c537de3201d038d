-- The answer words of document 01 as byte strings, each written out once.
use Rattle.std.specs.Prelude.{List, [], ◌∷◌, ℕ}
use Rattle.trace.specs.declared.Word.{Word}
use Rattle.trace.specs.declared.Word.TheVariants as word

abbrev pub NEW : List ℕ
NEW = 78 ∷ 69 ∷ 87 ∷ []

abbrev pub NEW_OUT : List ℕ
NEW_OUT = 78 ∷ 69 ∷ 87 ∷ 32 ∷ 79 ∷ 85 ∷ 84 ∷ []

abbrev pub OLD : List ℕ
OLD = 79 ∷ 76 ∷ 68 ∷ []

abbrev pub FULL : List ℕ
FULL = 70 ∷ 85 ∷ 76 ∷ 76 ∷ []

abbrev pub HIT : List ℕ
HIT = 72 ∷ 73 ∷ 84 ∷ []

abbrev pub MISS : List ℕ
MISS = 77 ∷ 73 ∷ 83 ∷ 83 ∷ []

abbrev pub SEE : List ℕ
SEE = 83 ∷ 69 ∷ 69 ∷ []

abbrev pub GONE : List ℕ
GONE = 71 ∷ 79 ∷ 78 ∷ 69 ∷ []

abbrev pub LEAST : List ℕ
LEAST = 76 ∷ 69 ∷ 65 ∷ 83 ∷ 84 ∷ []

abbrev pub NONE : List ℕ
NONE = 78 ∷ 79 ∷ 78 ∷ 69 ∷ []

abbrev pub RESET : List ℕ
RESET = 82 ∷ 69 ∷ 83 ∷ 69 ∷ 84 ∷ []

abbrev pub OK : List ℕ
OK = 79 ∷ 75 ∷ []

abbrev pub OUT : List ℕ
OUT = 79 ∷ 85 ∷ 84 ∷ []

abbrev pub BAD : List ℕ
BAD = 66 ∷ 65 ∷ 68 ∷ []

abbrev pub CUT : List ℕ
CUT = 67 ∷ 85 ∷ 84 ∷ []

abbrev pub CAPACITY : List ℕ
CAPACITY = 67 ∷ 65 ∷ 80 ∷ 65 ∷ 67 ∷ 73 ∷ 84 ∷ 89 ∷ []

abbrev pub END : List ℕ
END = 69 ∷ 78 ∷ 68 ∷ []

-- the bytes of each word
abbrev pub letters : Word → List ℕ
letters word.New = NEW
letters word.NewOut = NEW_OUT
letters word.Old = OLD
letters word.Full = FULL
letters word.Hit = HIT
letters word.Miss = MISS
letters word.See = SEE
letters word.Gone = GONE
letters word.Least = LEAST
letters word.Nothing = NONE
letters word.Reset = RESET
letters word.Okay = OK
letters word.Out = OUT
letters word.Bad = BAD
letters word.Cut = CUT
letters word.Capacity = CAPACITY
letters word.End = END
