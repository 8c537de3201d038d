-- The twelve cases of document 01, row by row, and what running one gives. That all twelve pass is `twelve_cases` of proofs/Cases.antt.
use Rattle.std.specs.Prelude.{List, [], ◌∷◌, ◌++◌, map, ℕ, zero, suc, ◌/◌, ◌%◌}
use Rattle.std.proofs.Math.Option.{Option, none, some}
use Prim.Native.Char.{code}
use Prim.Native.String.{String}
use Rattle.numbers.specs.Marks.{NONE}
use Rattle.numbers.specs.Frequency.{CEILING}
use Rattle.numbers.specs.declared.Refusal.TheVariants.{Present, Full, Empty}
use Rattle.ledger.specs.Ledger.{Level, Ledger, Item, new, lookup}
use Rattle.ledger.specs.Buckets.{Reply, done, refused}
use Rattle.ledger.specs.BucketCalls.{BucketCall, Ask, CurrentEpoch, Insert, Touch, Remove, PopMin, SetEpoch, AdvanceEpoch, DecayHalve, RebaseMinFreq, calls}
use Rattle.trace.specs.Lines.{FEED, decimal}
use Rattle.trace.specs.Output.{output}

-- Text

-- the bytes of a text, one for each character
abbrev bytes : String → List ℕ
bytes String.[] = []
bytes (String.◌∷◌ c s) = code c ∷ bytes s

-- lines, each ended by one line feed byte
abbrev lines : List String → List ℕ
lines [] = []
lines (s ∷ ss) = bytes s ++ (FEED ∷ lines ss)

abbrev joined : (between : List ℕ) → List (List ℕ) → List ℕ
joined between [] = []
joined between (x ∷ []) = x
joined between (x ∷ (y ∷ ys)) = x ++ (between ++ joined between (y ∷ ys))

-- a list as document 01 writes it: frequency:[head .. tail]
abbrev list : Level → List ℕ
list l = decimal l.frequency ++ (bytes ":[" ++ (joined (bytes ",") (map (λ e. decimal e.key) l.entries) ++ bytes "]"))

-- Rows

-- a call and the reply that is expected; the lists that are expected at this point; the slot that a key is expected in
pub data Line : Type 0 where
  ◌gives◌ : BucketCall → Reply → Line
  lists : List ℕ → Line
  stands_in : (key slot : ℕ) → Line

infix 70 ◌gives◌
-- calls on the buckets, from a ledger; or an input of the trace program and its whole output
pub data Case : Type 0 where
  buckets : Ledger → List Line → Case
  program : (input printed : List ℕ) → Case

abbrev slot_of : Option Item → ℕ
slot_of none = NONE
slot_of (some x) = x.slot

-- the same lines, with what a run gives in the place of what is expected
abbrev play : Ledger → List Line → List Line
play l [] = []
play l (c gives r ∷ ps) = let o = calls c l in c gives o.0 ∷ play o.1 ps
play l (lists shown ∷ ps) = lists (joined (bytes " ") (map list l.levels)) ∷ play l ps
play l (stands_in k s ∷ ps) = stands_in k (slot_of (lookup k l)) ∷ play l ps

abbrev pub run : Case → Case
run (buckets l ps) = buckets l (play l ps)
run (program input printed) = program input (output input)

-- Short forms

-- done with no number, with one, with key and frequency
abbrev ok : Reply
ok = done []

abbrev number : ℕ → Reply
number n = done (n ∷ [])

abbrev key_at : (key frequency : ℕ) → Reply
key_at k f = done (k ∷ f ∷ [])

abbrev shows : String → Line
shows s = lists (bytes s)

-- the records of a trace: operation, key and value, the last two eight bytes each, low byte first
abbrev low_first : (count : ℕ) → ℕ → List ℕ
low_first zero n = []
low_first (suc k) n = n % 256 ∷ low_first k (n / 256)

abbrev operation : (code key value : ℕ) → List ℕ
operation c k v = c ∷ (low_first 8 k ++ low_first 8 v)

abbrev insert : (key value : ℕ) → List ℕ
insert k v = operation 1 k v

abbrev get : (key : ℕ) → List ℕ
get k = operation 2 k 0

abbrev peek_lfu : List ℕ
peek_lfu = operation 5 0 0

-- list [9,4] at the ceiling
abbrev at_the_ceiling : Ledger
at_the_ceiling = record {
  capacity = 2;
  epoch = 0;
  levels =
      record {
        frequency = CEILING;
        entries = record { key = 9; slot = 1; epoch = 0 } ∷ record { key = 4; slot = 0; epoch = 0 } ∷ [];
      }
      ∷ [];
  free = [];
}

-- The table

-- empty, pop: EMPTY
abbrev c1 : Case
c1 = buckets (new 4) (PopMin gives refused Empty ∷ [])

-- insert 7 twice: second PRESENT, 1:[7]
abbrev c2 : Case
c2 = buckets (new 4) (Insert 7 gives ok ∷ Insert 7 gives refused Present ∷ shows "1:[7]" ∷ [])

-- insert 1, 2, 3: 1:[3,2,1]; pop gives key 1, frequency 1
abbrev c3 : Case
c3 = buckets (new 4) (Insert 1 gives ok ∷ Insert 2 gives ok ∷ Insert 3 gives ok ∷ shows "1:[3,2,1]" ∷ PopMin gives key_at 1 1 ∷ [])

-- insert 1, 2, 3, touch 1: 1:[3,2] 2:[1]; pop gives 2, 1
abbrev c4 : Case
c4 =
    buckets (new 4)
    (Insert 1 gives ok ∷ Insert 2 gives ok ∷ Insert 3 gives ok ∷ Touch CEILING 1 gives number 2 ∷ shows "1:[3,2] 2:[1]" ∷ PopMin gives key_at 2 1 ∷ [])

-- insert 5, touch it twice, rebase: 1:[5]
abbrev c5 : Case
c5 = buckets (new 4) (Insert 5 gives ok ∷ Touch CEILING 5 gives number 2 ∷ Touch CEILING 5 gives number 3 ∷ RebaseMinFreq gives ok ∷ shows "1:[5]" ∷ [])

-- insert 1, 2, touch 1 with cap 0: answer 1, 1:[1,2]
abbrev c6 : Case
c6 = buckets (new 4) (Insert 1 gives ok ∷ Insert 2 gives ok ∷ Touch 0 1 gives number 1 ∷ shows "1:[1,2]" ∷ [])

-- a key at 3, cap 2: answer 3
abbrev c7 : Case
c7 = buckets (new 4) (Insert 5 gives ok ∷ Touch CEILING 5 gives number 2 ∷ Touch CEILING 5 gives number 3 ∷ Touch 2 5 gives number 3 ∷ [])

-- insert 1, 2, 3, touch 1 twice and 2 once, halve: 1:[1,2,3]
abbrev c8 : Case
c8 =
    buckets (new 4)
    (Insert 1 gives ok ∷ Insert 2 gives ok ∷ Insert 3 gives ok ∷ Touch CEILING 1 gives number 2 ∷ Touch CEILING 1 gives number 3 ∷ Touch CEILING 2 gives number 2
    ∷ DecayHalve gives ok ∷ shows "1:[1,2,3]" ∷ [])

-- capacity 2, insert 1, 2, 3: FULL; remove 1, insert 3: slot 0
abbrev c9 : Case
c9 =
    buckets (new 2)
    (Insert 1 gives ok ∷ Insert 2 gives ok ∷ Insert 3 gives refused Full ∷ Remove 1 gives number 1 ∷ Insert 3 gives ok ∷ stands_in 3 0 ∷ [])

-- epoch 2^64 - 1, advance: 0
abbrev c10 : Case
c10 = buckets (new 4) (SetEpoch CEILING gives ok ∷ AdvanceEpoch gives number 0 ∷ Ask CurrentEpoch gives number 0 ∷ [])

-- list [9,4] at the ceiling, touch 4: answer 2^64 - 1, list [4,9]
abbrev c11 : Case
c11 =
    buckets at_the_ceiling
    (shows "18446744073709551615:[9,4]" ∷ Touch CEILING 4 gives number CEILING ∷ shows "18446744073709551615:[4,9]" ∷ [])

-- the cache at capacity 2 with insert 10/100, insert 20/200, get 10, insert 30/300, get 20, insert 10/111, peek_lfu, get 30, insert 40/400,
-- end; the program's whole output
abbrev c12 : Case
c12 =
    program
    (2 ∷ 0 ∷
    (insert 10 100 ++ insert 20 200 ++ get 10 ++ insert 30 300 ++ get 20 ++ insert 10 111 ++ peek_lfu ++ get 30 ++ insert 40 400))
    (lines
    ("NEW"
    ∷ "NEW"
    ∷ "HIT 100"
    ∷ "NEW OUT 20"
    ∷ "MISS"
    ∷ "OLD 100"
    ∷ "LEAST 30 300"
    ∷ "HIT 300"
    ∷ "NEW OUT 10"
    ∷ "END 2" ∷ []))

abbrev pub cases : List Case
cases = c1 ∷ c2 ∷ c3 ∷ c4 ∷ c5 ∷ c6 ∷ c7 ∷ c8 ∷ c9 ∷ c10 ∷ c11 ∷ c12 ∷ []
