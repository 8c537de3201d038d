-- What an operation asks of the cache, and what its line and the tables after it are: the line spells a reply that the promise of the public
-- call allows. An operation that is none prints `BAD` and leaves everything.
use Rattle.std.specs.Prelude.{◌≡◌, cond, List, ℕ, eqb, Result}
use Rattle.numbers.specs.declared.Refusal.{Refusal}
use Rattle.ledger.specs.Buckets.{Reply}
use Rattle.ledger.specs.Cache.{Cache}
use Rattle.ledger.specs.History.{CacheCall, Insert, Get, Peek, Remove, Reset, PeekLfu, Evict, Clear, Len}
use Rattle.ledger.specs.CacheCalls.{CacheOutcome, remove_batch_call, touch_batch_call}
use Rattle.promise.specs.Promise.{Promised, Makes}
use Rattle.buckets_tables.specs.declared.State.{State}
use Rattle.answers.specs.declared.Insertion.{Insertion}
use Rattle.answers.specs.Replies.{insertion_reply}
use Rattle.cache_tables.specs.Tables.{CacheTables}
use Rattle.cache_tables.specs.Lent.{cache}
use Rattle.lfu_batches.specs.Batches.{InsertsAll}
use Rattle.drive_lines.specs.declared.Told.{Told}
use Rattle.drive_lines.specs.Driving.{Stays, Reports}
use Rattle.drive_lines.specs.Lines.{text, reply_text, insertion_text}

-- no operation of the cache; the check that every call makes first; a single call; inserts of keys with values; another batch
pub data CacheOperation : Type 0 where
  None : CacheOperation
  Check : CacheOperation
  Single : CacheCall → CacheOperation
  InsertAll : (keys values : List ℕ) → CacheOperation
  Batch : (Cache → CacheOutcome) → CacheOperation

-- the operations that only answer
abbrev pub question : (code a : ℕ) → CacheOperation
question code a =
    cond (eqb code 42) (Single (Peek a))
    (cond (eqb code 45) (Single PeekLfu)
    (cond (eqb code 48) (Single Len)
    (cond (eqb code 49) Check None)))

-- all that take no batch
abbrev pub cache_call : (code a b : ℕ) → CacheOperation
cache_call code a b =
    cond (eqb code 40) (Single (Insert a b))
    (cond (eqb code 41) (Single (Get a))
    (cond (eqb code 43) (Single (Remove a))
    (cond (eqb code 44) (Single Clear)
    (cond (eqb code 46) (Single Evict)
    (cond (eqb code 47) (Single (Reset a)) (question code a))))))

-- the batches, of keys and values
abbrev pub batch_call : (code : ℕ) (keys values : List ℕ) → CacheOperation
batch_call code ks vs =
    cond (eqb code 63) (InsertAll ks vs)
    (cond (eqb code 64) (Batch (remove_batch_call ks))
    (cond (eqb code 65) (Batch (touch_batch_call ks))
    (cond (eqb code 66) (InsertAll ks vs) None)))

-- the line of a call's reply: how an insert went is a word
abbrev pub Says : CacheCall → Told → Reply → Type 0
Says (Insert k v) told r = (a : Result Insertion Refusal) × (r ≡ insertion_reply a) × (text told ≡ insertion_text a)
Says (Get k) told r = text told ≡ reply_text r
Says (Peek k) told r = text told ≡ reply_text r
Says (Remove k) told r = text told ≡ reply_text r
Says (Reset k) told r = text told ≡ reply_text r
Says PeekLfu told r = text told ≡ reply_text r
Says Evict told r = text told ≡ reply_text r
Says Clear told r = text told ≡ reply_text r
Says Len told r = text told ≡ reply_text r

-- what is told, and the tables and the state after it
unfoldable pub DrivesCache : CacheOperation → CacheTables → State → Told → CacheTables → State → Type 0
DrivesCache None t s told t' s' = Stays cache t s told t' s'
DrivesCache Check t s told t' s' = Reports cache t s told × (t' ≡ t) × (s' ≡ s)
DrivesCache (Single c) t s told t' s' = (r : Reply) × Says c told r × Makes cache c t s r t' s'
DrivesCache (InsertAll ks vs) t s told t' s' = (r : Reply) × (text told ≡ reply_text r) × InsertsAll ks vs t s r t' s'
DrivesCache (Batch f) t s told t' s' = (r : Reply) × (text told ≡ reply_text r) × Promised cache f t s r t' s'
