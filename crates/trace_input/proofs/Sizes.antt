-- What was read stands at the start of the buffer, and fits into it.
use Rattle.std.proofs.Common.{◌≡◌, ℕ, ◌≤◌, List, ◌++◌, length, take, drop, arith}
use lib.Seq.{length-take-le, length_front}

pub read_fits : (input got : List ℕ) (m n : ℕ) → m ≤ length input → length got ≡ length (take m input) → n ≤ length got →
    (n ≤ length (got ++ drop m input)) × (n ≤ m)
read_fits input got m n wide kept h =
    let whole = length_front input got m kept in
    let part = length-take-le m input wide in
    (omega arith, omega arith)
