-- What is told by calls that are lent only the tables that they read: the ledger's reply, for every table and state that may stand
-- beside what is lent.
use Rattle.std.specs.Prelude.{List, ℕ}
use Rattle.ledger.specs.Ledger.{Ledger}
use Rattle.ledger.specs.Buckets.{Reply, Outcome}
use Rattle.promise.specs.Promise.{Tells, Sound}
use Rattle.buckets_tables.specs.declared.State.{State}
use Rattle.buckets_tables.specs.Tables.{Tables, tables}
use Rattle.buckets_tables.specs.Lent.{buckets}

-- keys and index are lent
abbrev pub OfKeys : (k i : List ℕ) → (Ledger → Outcome) → Reply → Type 0
OfKeys k i call r = (f e p n a b sp : List ℕ) (s : State) → Tells buckets call (tables k f e p n a i b sp) s r

-- the frequencies too
abbrev pub OfFrequencies : (k f i : List ℕ) → (Ledger → Outcome) → Reply → Type 0
OfFrequencies k f i call r = (e p n a b sp : List ℕ) (s : State) → Tells buckets call (tables k f e p n a i b sp) s r

-- or the epochs
abbrev pub OfEpochs : (k e i : List ℕ) → (Ledger → Outcome) → Reply → Type 0
OfEpochs k e i call r = (f p n a b sp : List ℕ) (s : State) → Tells buckets call (tables k f e p n a i b sp) s r

-- no table is lent
abbrev pub OfState : State → (Ledger → Outcome) → Reply → Type 0
OfState s call r = (t : Tables) → Tells buckets call t s r

-- keys, frequencies and bucket records are lent: with some other tables they are sound
abbrev pub Peekable : (k f b : List ℕ) → State → Type 0
Peekable k f b s = (e : List ℕ) × (p : List ℕ) × (n : List ℕ) × (a : List ℕ) × (i : List ℕ) × (sp : List ℕ) × Sound buckets (tables k f e p n a i b sp) s

abbrev pub OfLeast : (k f b : List ℕ) → State → (Ledger → Outcome) → Reply → Type 0
OfLeast k f b s call r = (e p n a i sp : List ℕ) → Tells buckets call (tables k f e p n a i b sp) s r

-- the bucket records are lent: with some other tables they are sound
abbrev pub Countable : (b : List ℕ) → State → Type 0
Countable b s =
    (k : List ℕ) × (f : List ℕ) × (e : List ℕ) × (p : List ℕ) × (n : List ℕ) × (a : List ℕ) × (i : List ℕ) × (sp : List ℕ)
    × Sound buckets (tables k f e p n a i b sp) s

abbrev pub OfRecords : (b : List ℕ) → State → (Ledger → Outcome) → Reply → Type 0
OfRecords b s call r = (k f e p n a i sp : List ℕ) → Tells buckets call (tables k f e p n a i b sp) s r
