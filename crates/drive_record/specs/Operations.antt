-- The operations of `drive` but the walk, and what carrying one out tells and leaves: each by the promise of its public call.
use Rattle.std.specs.Prelude.{◌≡◌, cond, ℕ, ◌+◌, ◌-◌, eqb, ltb}
use Rattle.std.proofs.Math.Option.{Option, none}
use Rattle.numbers.specs.Marks.{LIMIT}
use Rattle.ledger.specs.BucketCalls.{BucketCall}
use Rattle.buckets_tables.specs.declared.State.{State}
use Rattle.buckets_tables.specs.Lent.{buckets}
use Rattle.cache_tables.specs.Tables.{CacheTables}
use Rattle.trace.specs.declared.Word.{Word}
use Rattle.drive_lines.specs.declared.Told.{Told}
use Rattle.drive_lines.specs.declared.Told.TheVariants.{Just}
use Rattle.drive_lines.specs.Driving.{Reports}
use Rattle.drive_buckets.specs.Operations as bucket
use Rattle.drive_buckets.specs.Operations.{bucket_call, keys_from}
use Rattle.drive_damage.specs.Damage.{Damages, Alters}
use Rattle.drive_cache.specs.Operations as cached
use Rattle.drive_cache.specs.Operations.{CacheOperation, cache_call, DrivesCache}

-- What an operation asks for. An operation that is none asks for no call.
pub data Operation : Type 0 where
  Check : Operation
  Store : Operation
  SetField : Operation
  OnBuckets : Option BucketCall → Operation
  OnCache : CacheOperation → Operation

-- how many values more than keys a batch is given: one at 66, where the two differ in length
abbrev pub surplus_of : (code : ℕ) → ℕ
surplus_of code = cond (eqb code 66) 1 0

-- batches of at most as many keys, and as many values, as there can be slots; a key is its own value
abbrev pub batch_of : (code a b : ℕ) → Operation
batch_of code a b =
    cond (ltb (LIMIT - surplus_of code) b) (OnBuckets none)
    (cond (ltb code 63) (OnBuckets (bucket.batch_call code (keys_from a b)))
    (OnCache (cached.batch_call code (keys_from a b) (keys_from a (b + surplus_of code)))))

abbrev pub operation_of : (code a b : ℕ) → Operation
operation_of code a b =
    cond (eqb code 21) Check
    (cond (eqb code 30) Store
    (cond (eqb code 31) SetField
    (cond (ltb code 40) (OnBuckets (bucket_call code a b))
    (cond (ltb code 60) (OnCache (cache_call code a b)) (batch_of code a b)))))

-- what is told, and the tables and the state after it
abbrev pub Acts : Operation → (a b : ℕ) → CacheTables → State → Told → CacheTables → State → Type 0
Acts Check a b t s told t' s' = Reports buckets t.base s told × (t' ≡ t) × (s' ≡ s)
Acts Store a b t s told t' s' = (w : Word) × (told ≡ Just w) × Damages a b t w t' × (s' ≡ s)
Acts SetField a b t s told t' s' = (w : Word) × (told ≡ Just w) × Alters a b s w s' × (t' ≡ t)
Acts (OnBuckets c) a b t s told t' s' = bucket.DrivesBuckets c t.base s told t'.base s' × (t'.values ≡ t.values)
Acts (OnCache c) a b t s told t' s' = DrivesCache c t s told t' s'
