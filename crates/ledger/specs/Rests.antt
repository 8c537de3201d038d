-- The slot that rested longest (document 02, K4): which slots the calls of the buckets hand out and take back, in order, and what it means
-- that a freed slot rests longest. That the slots handed out and taken back are the right ones: `handed_exactly` and `given_exactly`,
-- proofs/Rests.antt.
use Rattle.std.specs.Prelude.{◌≡◌, ◌≢◌, List, [], ◌∷◌, ◌++◌, ℕ, ◌≤◌}
use Rattle.lists.specs.Lists.{All, Without}
use Rattle.ledger.specs.Ledger.{Ledger, items, lookup, if_found, lowest, slotted, WellFormed}
use Rattle.ledger.specs.Buckets.{Reply, done, refused, Outcome, insert, remove}
use Rattle.ledger.specs.BucketCalls.{BucketCall, Ask, Insert, Touch, Remove, PopMin, SetEntryEpoch, SetEpoch, AdvanceEpoch, DecayHalve, DecayHalveTimes, RebaseMinFreq, Clear, InsertBatch, TouchBatch, RemoveBatch, calls}

-- the slot of a bound key
abbrev pub slot_of : ℕ → Ledger → List ℕ
slot_of k l = if_found (lookup k l) [] (λ x. x.slot ∷ [])

-- what a call that is done moved; a refused one moved nothing
abbrev pub if_done : Reply → List ℕ → List ℕ
if_done (done ns) ss = ss
if_done (refused a) ss = []

-- an insert that is done hands out the slot in which its key is bound then
abbrev pub handed : ℕ → Ledger → List ℕ
handed k l = let r = insert k l in if_done r.0 (slot_of k r.1)

-- what the single calls of a batch hand out or take back, one after the other
abbrev pub each_of : (ℕ → Ledger → Outcome) → (ℕ → Ledger → List ℕ) → List ℕ → Ledger → List ℕ
each_of call slots [] l = []
each_of call slots (k ∷ ks) l = slots k l ++ each_of call slots ks (call k l).1

-- the slots that a call hands out, and those that it takes back; a `clear` begins a new queue, and no law speaks of it
unfoldable pub traffic : BucketCall → Ledger → List ℕ × List ℕ
traffic (Ask q) l = ([], [])
traffic (Insert k) l = (handed k l, [])
traffic (Touch cap k) l = ([], [])
traffic (Remove k) l = ([], slot_of k l)
traffic PopMin l = ([], if_found (lowest l.levels) [] (λ x. x.slot ∷ []))
traffic (SetEntryEpoch k n) l = ([], [])
traffic (SetEpoch n) l = ([], [])
traffic AdvanceEpoch l = ([], [])
traffic DecayHalve l = ([], [])
traffic (DecayHalveTimes n) l = ([], [])
traffic RebaseMinFreq l = ([], [])
traffic Clear l = ([], [])
traffic (InsertBatch ks) l = (each_of insert handed ks l, [])
traffic (TouchBatch ks) l = ([], [])
traffic (RemoveBatch ks) l = ([], each_of remove slot_of ks l)

abbrev pub hands : BucketCall → Ledger → List ℕ
hands c l = (traffic c l).0

abbrev pub gives : BucketCall → Ledger → List ℕ
gives c l = (traffic c l).1

-- over a sequence of calls
abbrev pub hands_all : Ledger → List BucketCall → List ℕ
hands_all l [] = []
hands_all l (c ∷ cs) = hands c l ++ hands_all (calls c l).1 cs

abbrev pub gives_all : Ledger → List BucketCall → List ℕ
gives_all l [] = []
gives_all l (c ∷ cs) = gives c l ++ gives_all (calls c l).1 cs

-- some key is bound in slot s
abbrev pub BoundIn : ℕ → Ledger → Type 0
BoundIn s l = 1 ≤ slotted s (items l.levels)

abbrev pub NeverClears : List BucketCall → Type 0
NeverClears cs = All (λ c. c ≢ Clear) cs

-- A freed slot rests longest. A call takes the slot s back, a batch perhaps after others: free then are the slots that were free before the
-- call, and these others. Whatever calls follow, but no `clear`: up to where s is first handed out again, the slots handed out are those that
-- were free when it was freed, all of them, in their order.
abbrev pub RestsLongest : Type 0
RestsLongest =
    (l : Ledger) → WellFormed l → (c : BucketCall) → c ≢ Clear → (others later : List ℕ) (s : ℕ) → gives c l ≡ others ++ s ∷ later →
    (cs : List BucketCall) → NeverClears cs → (until after : List ℕ) → hands_all (calls c l).1 cs ≡ until ++ s ∷ after → Without s until →
    until ≡ l.free ++ others
