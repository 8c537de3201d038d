-- What a call on epochs does that is lent the state alone, or few tables: the same, for every table that may stand beside them.
use Rattle.std.specs.Prelude.{List, ℕ}
use Rattle.ledger.specs.Ledger.{Ledger}
use Rattle.ledger.specs.Buckets.{Reply, Outcome}
use Rattle.promise.specs.Promise.{Does}
use Rattle.buckets_tables.specs.declared.State.{State}
use Rattle.buckets_tables.specs.Tables.{Tables, tables}
use Rattle.buckets_tables.specs.Lent.{buckets}

-- only the state is lent
abbrev pub OnState : (Ledger → Outcome) → State → Reply → State → Type 0
OnState call s r s' = (t : Tables) → Does buckets call t s r t s'

-- keys, epochs and index are lent, and only the epochs change
abbrev pub OnEpochs : (Ledger → Outcome) → (k e i : List ℕ) → Reply → (e' : List ℕ) → Type 0
OnEpochs call k e i r e' = (f p n a b sp : List ℕ) (s : State) → Does buckets call (tables k f e p n a i b sp) s r (tables k f e' p n a i b sp) s
