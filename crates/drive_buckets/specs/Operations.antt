-- The public call that an operation of `drive` names, and what carrying it out tells and leaves.
use Rattle.std.specs.Prelude.{◌≡◌, ℕ, zero, suc, ◌+◌, ◌%◌, ◌^◌, cond, List, [], ◌∷◌, ◌==◌}
use Rattle.std.proofs.Math.Option.{Option, none, some}
use Rattle.numbers.specs.Frequency.{CEILING}
use Rattle.ledger.specs.Buckets.{Reply}
use Rattle.ledger.specs.BucketCalls.{BucketCall, Ask, PeekMin, MinFreq, Frequency, EntryEpoch, CurrentEpoch, Len, IsEmpty, Contains, BucketLen, LenUpTo, Insert, Touch, Remove, PopMin, SetEntryEpoch, SetEpoch, AdvanceEpoch, DecayHalve, DecayHalveTimes, RebaseMinFreq, Clear, InsertBatch, TouchBatch, RemoveBatch}
use Rattle.promise.specs.Promise.{Makes}
use Rattle.buckets_tables.specs.declared.State.{State}
use Rattle.buckets_tables.specs.Tables.{Tables}
use Rattle.buckets_tables.specs.Lent.{buckets}
use Rattle.drive_lines.specs.declared.Told.{Told}
use Rattle.drive_lines.specs.Driving.{Stays}
use Rattle.drive_lines.specs.Lines.{text, reply_text}

-- Operations

-- those that only answer
abbrev pub query_call : (code a : ℕ) → Option BucketCall
query_call code a =
    cond (code == 6) (some (Ask PeekMin))
    (cond (code == 7) (some (Ask MinFreq))
    (cond (code == 8) (some (Ask (Frequency a)))
    (cond (code == 9) (some (Ask (EntryEpoch a)))
    (cond (code == 11) (some (Ask CurrentEpoch))
    (cond (code == 14) (some (Ask Len))
    (cond (code == 15) (some (Ask IsEmpty))
    (cond (code == 16) (some (Ask (Contains a)))
    (cond (code == 24) (some (Ask (BucketLen a)))
    (cond (code == 25) (some (Ask (LenUpTo a))) none)))))))))

-- and those that set an epoch
abbrev pub epoch_call : (code a b : ℕ) → Option BucketCall
epoch_call code a b =
    cond (code == 10) (some (SetEntryEpoch a b))
    (cond (code == 12) (some (SetEpoch a))
    (cond (code == 13) (some AdvanceEpoch) (query_call code a)))

-- and those that give every key another frequency
abbrev pub decay_call : (code a b : ℕ) → Option BucketCall
decay_call code a b =
    cond (code == 17) (some DecayHalve)
    (cond (code == 18) (some RebaseMinFreq)
    (cond (code == 22) (some (DecayHalveTimes a)) (epoch_call code a b)))

-- and clearing
abbrev pub whole_call : (code a b : ℕ) → Option BucketCall
whole_call code a b = cond (code == 19) (some Clear) (decay_call code a b)

-- and those on one key: all of 1 to 19, 22, 24 and 25
abbrev pub bucket_call : (code a b : ℕ) → Option BucketCall
bucket_call code a b =
    cond (code == 1) (some (Insert a))
    (cond (code == 2) (some (Touch CEILING a))
    (cond (code == 3) (some (Touch b a))
    (cond (code == 4) (some (Remove a))
    (cond (code == 5) (some PopMin) (whole_call code a b)))))

-- the keys of a batch, which 2^64 - 1 does not end
abbrev pub keys_from : (first count : ℕ) → List ℕ
keys_from a zero = []
keys_from a (suc n) = a ∷ keys_from ((a + 1) % 2 ^ 64) n

abbrev pub batch_call : (code : ℕ) (keys : List ℕ) → Option BucketCall
batch_call code ks =
    cond (code == 60) (some (InsertBatch ks))
    (cond (code == 61) (some (TouchBatch ks))
    (cond (code == 62) (some (RemoveBatch ks)) none))

-- What is told and left

-- the line of a reply that the call may give
abbrev pub ShowsBuckets : BucketCall → Tables → State → Told → Tables → State → Type 0
ShowsBuckets c t s told t' s' = (r : Reply) × (text told ≡ reply_text r) × Makes buckets c t s r t' s'

abbrev pub DrivesBuckets : Option BucketCall → Tables → State → Told → Tables → State → Type 0
DrivesBuckets none t s told t' s' = Stays buckets t s told t' s'
DrivesBuckets (some c) t s told t' s' = ShowsBuckets c t s told t' s'
