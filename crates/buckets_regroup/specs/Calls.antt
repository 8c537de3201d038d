-- What the calls do. They are lent the levels, and do it for all guests and epochs that fit.
use Rattle.std.specs.Prelude.{List, [], ℕ}
use Rattle.ledger.specs.Ledger.{Ledger}
use Rattle.ledger.specs.Buckets.{Outcome, done}
use Rattle.ledger.specs.Regroup.{regrouped}
use Rattle.levels.specs.Held.{Tabs}
use Rattle.buckets_tables.specs.declared.Guests.{Guests}
use Rattle.buckets_tables.specs.Slices.{joined}
use Rattle.buckets_tables.specs.Tables.{Tables}

-- the levels, with guests and epochs around them
abbrev pub around : Tabs → Guests (List ℕ) × List ℕ → Tables
around l b = joined b.0 b.1 l

-- all levels moved by one change
abbrev pub by_change : (ℕ → ℕ) → Ledger → Outcome
by_change g l = (done [], regrouped g l)
