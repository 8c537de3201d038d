-- Each call of the buckets as data, so that a law can speak of all of them at once.
use Rattle.std.specs.Prelude.{List, [], ◌∷◌, ℕ}
use Rattle.ledger.specs.Ledger.{Ledger}
use Rattle.ledger.specs.Buckets.{Outcome, Reply, insert, touch, remove, pop_min, peek_min, min_freq, frequency, entry_epoch, set_entry_epoch, current_epoch, set_epoch, advance_epoch, len, is_empty, contains, clear, insert_batch, touch_batch, remove_batch}
use Rattle.ledger.specs.Regroup.{decay_halve, decay_halve_times, rebase_min_freq}
use Rattle.ledger.specs.Walk.{step_reply, start, step}
use Rattle.ledger.specs.Counts.{bucket_len, len_up_to}

-- the calls that only answer
pub data Query : Type 0 where
  PeekMin : Query
  MinFreq : Query
  Frequency : (key : ℕ) → Query
  EntryEpoch : (key : ℕ) → Query
  CurrentEpoch : Query
  Len : Query
  IsEmpty : Query
  Contains : (key : ℕ) → Query
  WalkStart : (frequency : ℕ) → Query
  WalkStep : (slot : ℕ) → Query
  BucketLen : (frequency : ℕ) → Query
  LenUpTo : (frequency : ℕ) → Query

pub data BucketCall : Type 0 where
  Ask : Query → BucketCall
  Insert : (key : ℕ) → BucketCall
  Touch : (cap key : ℕ) → BucketCall
  Remove : (key : ℕ) → BucketCall
  PopMin : BucketCall
  SetEntryEpoch : (key epoch : ℕ) → BucketCall
  SetEpoch : (epoch : ℕ) → BucketCall
  AdvanceEpoch : BucketCall
  DecayHalve : BucketCall
  DecayHalveTimes : (n : ℕ) → BucketCall
  RebaseMinFreq : BucketCall
  Clear : BucketCall
  InsertBatch : List ℕ → BucketCall
  TouchBatch : List ℕ → BucketCall
  RemoveBatch : List ℕ → BucketCall

unfoldable pub asks : Query → Ledger → Outcome
asks PeekMin l = peek_min l
asks MinFreq l = min_freq l
asks (Frequency k) l = frequency k l
asks (EntryEpoch k) l = entry_epoch k l
asks CurrentEpoch l = current_epoch l
asks Len l = len l
asks IsEmpty l = is_empty l
asks (Contains k) l = contains k l
asks (WalkStart f) l = (step_reply (start f l), l)
asks (WalkStep s) l = (step_reply (step s l), l)
asks (BucketLen f) l = bucket_len f l
asks (LenUpTo f) l = len_up_to f l

unfoldable pub calls : BucketCall → Ledger → Outcome
calls (Ask q) l = asks q l
calls (Insert k) l = insert k l
calls (Touch cap k) l = touch cap k l
calls (Remove k) l = remove k l
calls PopMin l = pop_min l
calls (SetEntryEpoch k n) l = set_entry_epoch k n l
calls (SetEpoch n) l = set_epoch n l
calls AdvanceEpoch l = advance_epoch l
calls DecayHalve l = decay_halve l
calls (DecayHalveTimes n) l = decay_halve_times n l
calls RebaseMinFreq l = rebase_min_freq l
calls Clear l = clear l
calls (InsertBatch ks) l = insert_batch ks l
calls (TouchBatch ks) l = touch_batch ks l
calls (RemoveBatch ks) l = remove_batch ks l

-- a sequence of calls: what they answer, and the ledger after it
abbrev pub replies : Ledger → List BucketCall → List Reply
replies l [] = []
replies l (c ∷ cs) = let r = calls c l in r.0 ∷ replies r.1 cs

abbrev pub after_calls : Ledger → List BucketCall → Ledger
after_calls l [] = l
after_calls l (c ∷ cs) = after_calls (calls c l).1 cs
