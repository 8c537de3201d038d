-- What a step on the cache's tables does: the shape of its promises; and, for those that are not lent every table, the same for every
-- table that may stand beside those that are.
use Rattle.std.specs.Prelude.{◌≡◌, List, ℕ}
use Rattle.ledger.specs.Cache.{Cache}
use Rattle.ledger.specs.History.{Peek, PeekLfu}
use Rattle.buckets_tables.specs.declared.State.{State}
use Rattle.levels.specs.Held.{tabs}
use Rattle.buckets_tables.specs.declared.Guests.{Guests}
use Rattle.buckets_tables.specs.Slices.{joined}
use Rattle.buckets_tables.specs.Tables.{tables}
use Rattle.cache_tables.specs.Tables.{CacheTables, with_values, CacheHolds}
use Rattle.trace.specs.declared.Line.{Line}
use Rattle.trace.specs.Lines.{text, tells, LONGEST}
use Rattle.trace.specs.Written.{Spells}

-- whatever cache the tables hold, the line is that of f, and the tables hold the cache after it
abbrev pub Lines : (Cache → Line × Cache) → CacheTables → State → Line → CacheTables → State → Type 0
Lines f t s line t' s' = (c : Cache) → CacheHolds t s c → (line ≡ (f c).0) × CacheHolds t' s' (f c).1

-- the same, with the line written into a buffer
abbrev pub RecordPrints : (Cache → Line × Cache) → CacheTables → State → (out : List ℕ) (at : ℕ) → CacheTables → State → (out' : List ℕ) (r : ℕ) → Type 0
RecordPrints f t s out at t' s' out' r =
    (c : Cache) → CacheHolds t s c → Spells out at (text (f c).0) LONGEST out' r × CacheHolds t' s' (f c).1

-- not lent every table: `t` gives the whole tables for those that are not lent
abbrev pub LinesBeside : {A : Type 0} → (Cache → Line × Cache) → (A → CacheTables) → State → Line → (A → CacheTables) → State → Type 0
LinesBeside {A} f t s line t' s' = (a : A) → Lines f (t a) s line (t' a) s'

-- a peek is lent keys, index and values
abbrev pub OfPeek : (key : ℕ) → (k i vs : List ℕ) → Line → Type 0
OfPeek key k i vs line =
    (f e p n a b sp : List ℕ) (s : State) → let t = with_values (tables k f e p n a i b sp) vs in Lines (tells (Peek key)) t s line t s

-- a look at the key that was used least is lent keys, bucket records and values
abbrev pub OfPeekLfu : (k b vs : List ℕ) → State → Line → Type 0
OfPeekLfu k b vs s line =
    (f e p n a i sp : List ℕ) → let t = with_values (tables k f e p n a i b sp) vs in Lines (tells PeekLfu) t s line t s

-- a clear is lent all tables but the bucket records
abbrev pub beside : Guests (List ℕ) → (epochs freqs prevs nexts spares values : List ℕ) → (buckets : List ℕ) → CacheTables
beside g e f p n sp vs b = with_values (joined g e (tabs f p n b sp)) vs
