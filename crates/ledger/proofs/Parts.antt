-- A history that is parted comes from calls that are parted: the log of a sequence and its two parts. Induction on the first part.
use mathlib.Core.Path.{◌≡◌, refl, ap}
use mathlib.Core.List.{List, [], ◌∷◌, ◌++◌}
use Prim.Native.Nat.{ℕ, ◌+◌, ◌≤◌}
use native.Mathlib.Omega.{arith}
use lib.ListN.{length, length-append}
use Rattle.ledger.specs.Cache.{Cache}
use Rattle.ledger.specs.History.{CacheCall, Event, does, log, after_all}

-- the calls behind the parts of a log
pub record Parted (before rest : List Event) (c : Cache) (as' : List CacheCall) : Type 0 where
  pub first : List CacheCall
  pub second : List CacheCall
  pub calls : as' ≡ first ++ second
  pub log_first : log c first ≡ before
  pub log_second : log (after_all c first) second ≡ rest

pub part : (before rest : List Event) (c : Cache) (as' : List CacheCall) → log c as' ≡ before ++ rest → Parted before rest c as'
part [] rest c as' e = record { first = []; second = as'; calls = refl; log_first = refl; log_second = e }
part (x ∷ xs) rest c [] e = let z : ◌≡◌ {A = ℕ} 0 1 = cc in absurd (omega arith)
part (x ∷ xs) rest c (a ∷ as') e =
    let p : (does a c).0 ≡ x = cc in
    let q : log (does a c).1 as' ≡ xs ++ rest = cc in
    let r = part xs rest (does a c).1 as' q in
    record {
      first = a ∷ r.first;
      second = r.second;
      calls = ap {B = List CacheCall} (λ z. a ∷ z) r.calls;
      log_first = λ i. p i ∷ r.log_first i;
      log_second = r.log_second;
    }

pub part_length : (n : ℕ) (as' bs cs : List CacheCall) → as' ≡ bs ++ cs → length as' ≤ n → length bs + length cs ≤ n
part_length n as' bs cs e l = let p = ap length e in let q = length-append bs cs in omega arith
