-- The calls of `FrequencyBuckets`, each a function from a ledger to a reply and the ledger after it.
use Rattle.std.specs.Prelude.{Bool, true, false, cond, List, [], ◌∷◌, ℕ, ◌+◌, ◌^◌, ◌%◌, eqb}
use Rattle.std.proofs.Math.Option.{Option, none, some}
use Rattle.numbers.specs.Answer.{DONE, number_of}
use Rattle.numbers.specs.declared.Refusal.{Refusal}
use Rattle.numbers.specs.declared.Refusal.TheVariants.{Absent, Present, Full, Empty}
use Rattle.numbers.specs.Frequency.{CEILING, raised, cap_of}
use Rattle.ledger.specs.Ledger.{Entry, Level, Ledger, Item, new, lookup, if_found, size, lowest, put, release, move}

-- DONE with the numbers of the answer, or a refusal, beside which no number stands
pub data Reply : Type 0 where
  done : List ℕ → Reply
  refused : Refusal → Reply

-- document 01's number of the answer
abbrev pub number : Reply → ℕ
number (done ns) = DONE
number (refused a) = number_of a

abbrev pub Outcome : Type 0
Outcome = Reply × Ledger

-- `insert`: PRESENT before FULL; an absent key gets the first free slot
abbrev pub insert_as : Option Item → List ℕ → ℕ → Ledger → Outcome
insert_as (some x) free k l = (refused Present, l)
insert_as none [] k l = (refused Full, l)
insert_as none (s ∷ rest) k l = (done [], put k s rest l)

unfoldable pub insert : ℕ → Ledger → Outcome
insert k l = insert_as (lookup k l) l.free k l

-- a hit up to a cap, of which 0 is read as 1: one level up while below it, else to the head of its own list; a frequency above the cap is
-- never lowered; the answer is the new frequency. The cap of a plain touch is the ceiling.
unfoldable pub touch : (cap key : ℕ) → Ledger → Outcome
touch cap k l =
    if_found (lookup k l) (refused Absent, l) (λ x. let f = raised (cap_of cap) x.frequency in (done (f ∷ []), move x f l))

-- answers the frequency
unfoldable pub remove : ℕ → Ledger → Outcome
remove k l = if_found (lookup k l) (refused Absent, l) (λ x. (done (x.frequency ∷ []), release x l))

-- takes the tail of the lowest list; answers key and frequency
unfoldable pub pop_min : Ledger → Outcome
pop_min l = if_found (lowest l.levels) (refused Empty, l) (λ x. (done (x.key ∷ x.frequency ∷ []), release x l))

-- answers the same, and changes nothing
unfoldable pub peek_min : Ledger → Outcome
peek_min l = if_found (lowest l.levels) (refused Empty, l) (λ x. (done (x.key ∷ x.frequency ∷ []), l))

unfoldable pub min_freq : Ledger → Outcome
min_freq l = if_found (lowest l.levels) (refused Empty, l) (λ x. (done (x.frequency ∷ []), l))

unfoldable pub frequency : ℕ → Ledger → Outcome
frequency k l = if_found (lookup k l) (refused Absent, l) (λ x. (done (x.frequency ∷ []), l))

unfoldable pub entry_epoch : ℕ → Ledger → Outcome
entry_epoch k l = if_found (lookup k l) (refused Absent, l) (λ x. (done (x.epoch ∷ []), l))

-- one epoch changed, in its place
abbrev pub dated : ℕ → ℕ → List Entry → List Entry
dated k n [] = []
dated k n (e ∷ es) = cond (eqb e.key k) (record { key = k; slot = e.slot; epoch = n }) e ∷ dated k n es

abbrev pub redated : ℕ → ℕ → List Level → List Level
redated k n [] = []
redated k n (l ∷ ls) = record { frequency = l.frequency; entries = dated k n l.entries } ∷ redated k n ls

unfoldable pub set_entry_epoch : ℕ → ℕ → Ledger → Outcome
set_entry_epoch k n l =
    if_found (lookup k l) (refused Absent, l) (λ x.
    (done [], record { capacity = l.capacity; epoch = l.epoch; levels = redated k n l.levels; free = l.free }))

unfoldable pub current_epoch : Ledger → Outcome
current_epoch l = (done (l.epoch ∷ []), l)

abbrev pub at_epoch : ℕ → Ledger → Ledger
at_epoch n l = record { capacity = l.capacity; epoch = n; levels = l.levels; free = l.free }

unfoldable pub set_epoch : ℕ → Ledger → Outcome
set_epoch n l = (done [], at_epoch n l)

-- adds 1, going from 2^64 - 1 to 0, and answers the new epoch
unfoldable pub advance_epoch : Ledger → Outcome
advance_epoch l = let n = (l.epoch + 1) % (2 ^ 64) in (done (n ∷ []), at_epoch n l)

unfoldable pub len : Ledger → Outcome
len l = (done (size l ∷ []), l)

-- yes is 1 and no is 0
abbrev pub yes_no : Bool → ℕ
yes_no b = cond b 1 0

abbrev pub is_some : Option Item → Bool
is_some none = false
is_some (some x) = true

unfoldable pub is_empty : Ledger → Outcome
is_empty l = (done (yes_no (eqb (size l) 0) ∷ []), l)

unfoldable pub contains : ℕ → Ledger → Outcome
contains k l = (done (yes_no (is_some (lookup k l)) ∷ []), l)

-- gives the new table, epoch 0 too
unfoldable pub clear : Ledger → Outcome
clear l = (done [], new l.capacity)

-- a batch: the single call for each item in order, carrying on past refusals; the answer is how many were done
abbrev pub was_done : Reply → ℕ
was_done (done ns) = 1
was_done (refused a) = 0

abbrev pub batch : (ℕ → Ledger → Outcome) → List ℕ → Ledger → ℕ × Ledger
batch call [] l = (0, l)
batch call (k ∷ ks) l =
    let first = call k l in
    let rest = batch call ks first.1 in
    (was_done first.0 + rest.0, rest.1)

abbrev pub counted : ℕ × Ledger → Outcome
counted r = (done (r.0 ∷ []), r.1)

unfoldable pub insert_batch : List ℕ → Ledger → Outcome
insert_batch ks l = counted (batch insert ks l)

unfoldable pub touch_batch : List ℕ → Ledger → Outcome
touch_batch ks l = counted (batch (touch CEILING) ks l)

unfoldable pub remove_batch : List ℕ → Ledger → Outcome
remove_batch ks l = counted (batch remove ks l)
