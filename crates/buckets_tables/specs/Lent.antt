-- The tables of the frequency buckets as a kind of lent tables: with this, the shape of every promise speaks of them, and each public
-- call's promise names one of the ledger's calls.
use Rattle.ledger.specs.Ledger.{Ledger}
use Rattle.ledger.specs.BucketCalls.{BucketCall, calls}
use Rattle.promise.specs.Promise.{Lent}
use Rattle.buckets_tables.specs.declared.State.{State}
use Rattle.buckets_tables.specs.Tables.{Tables, Sized}
use Rattle.buckets_tables.specs.Holds.{Holds}

abbrev pub buckets : Lent
buckets = record {
  Tables = Tables;
  State = State;
  Ledger = Ledger;
  Call = BucketCall;
  capacity = λ s. s.capacity;
  Fits = Sized;
  Holds = Holds;
  calls = calls;
}
