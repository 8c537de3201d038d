-- An input that is read in parts: the parts run one after another, and the seventeen bytes of a record print its line.
use mathlib.Core.Path.{◌≡◌, refl, ap, ◌∙◌}
use mathlib.Core.List.{List, [], ◌∷◌, ◌++◌, append_assoc}
use Prim.Native.Nat.{ℕ, suc, ◌+◌}
use native.Mathlib.Omega.{arith}
use borrow.Author.Tests.{eq-eqb, ne_eqb}
use lib.ListN.{length, length-append}
use Rattle.ledger.specs.Cache.{Cache}
use Rattle.trace.specs.Output.{Run, run, RECORD, ended, reads, runs}

pub runs_on : (r : Run) (xs ys : List ℕ) → runs r (xs ++ ys) ≡ runs (runs r xs) ys
unfolding runs
runs_on r [] ys = refl
runs_on r (x ∷ xs) ys = runs_on (reads r x) xs ys

-- the bytes that a record still lacks
rest_runs : (out : List ℕ) (c : Cache) (p : List ℕ) (x : ℕ) (xs : List ℕ) → length p + suc (length xs) ≡ RECORD → runs (run out c p) (x ∷ xs) ≡ ended out c (p ++ x ∷ xs)
unfolding runs reads
rest_runs out c p x [] e = rw (eq-eqb (length (p ++ (x ∷ []))) RECORD (simp length-append (omega arith)))
rest_runs out c p x (y ∷ ys) e =
    rw (ne_eqb (length (p ++ (x ∷ []))) RECORD (λ q. let more = simp length-append at q in omega arith))
    (rest_runs out c (p ++ (x ∷ [])) y ys (simp length-append (omega arith)) ∙ ap (ended out c) (append_assoc p (x ∷ []) (y ∷ ys)))

-- a record
pub record_runs : (out : List ℕ) (c : Cache) (bs : List ℕ) → length bs ≡ RECORD → runs (run out c []) bs ≡ ended out c bs
record_runs out c [] e = absurd (omega arith)
record_runs out c (x ∷ xs) e = rest_runs out c [] x xs (omega arith)
