-- Runs behind runs: their numbers add up, by induction on the later ones.
use Rattle.std.proofs.Common.{◌≡◌, ℕ, ℤ, ◌+◌, zero, suc, subst, sym, arith}
use Rattle.inputs.specs.Running.{Runs}

pub runs_add : {F : Type 0} (step : F → ℤ → Unit {0} → F → Type 0) (f g h : F) (m n : ℕ) → Runs step f m g → Runs step g n h → Runs step f (m + n) h
runs_add step f g h m zero a b =
    let e : m ≡ m + 0 = omega arith in
    subst (λ k. Runs step f k h) e (subst (λ x. Runs step f m x) (sym b) a)
runs_add step f g h m (suc n) a b =
    let e : suc (m + n) ≡ m + suc n = omega arith in
    let all : Runs step f (suc (m + n)) h = (b.0, b.1, runs_add step f g b.0 m n a b.2, b.3) in
    subst (λ k. Runs step f k h) e all
