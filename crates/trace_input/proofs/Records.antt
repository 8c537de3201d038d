-- The bytes of a record in the input: its operation, key and value are read where they stand.
use mathlib.Core.Path.{◌≡◌, refl, sym, ap, ◌∙◌}
use mathlib.Core.List.{List, [], ◌∷◌}
use Prim.Native.Nat.{ℕ, zero, suc, ◌+◌, ◌≤◌}
use native.Mathlib.Omega.{arith}
use lib.ListN.{get_or, take, drop}
use lib.Seq.{take-take, drop-drop, get_or-take, get_or-drop}
use Rattle.trace.specs.Output.{RECORD, little, code_of, key_of, value_of}
use Rattle.trace_input.specs.Feeding.{record_at}

-- a part of a part
within : (m k n : ℕ) (l : List ℕ) → m + k ≤ n → take k (drop m (take n l)) ≡ take k (drop m l)
within zero k n l h = take-take k n l (omega arith)
within (suc m) k zero l h = absurd (omega arith)
within (suc m) k (suc n) [] h = refl
within (suc m) k (suc n) (x ∷ xs) h = within m k n xs (omega arith)

module _ (input : List ℕ) (next : ℕ) where
  pub code_read : get_or input next 0 ≡ code_of (record_at input next)
  code_read = sym (get_or-take RECORD (drop next input) 0 0 (omega arith) ∙ get_or-drop next input 0 0 ∙ ap (λ (p : ℕ). get_or input p 0) (omega arith))

  field_read : (m : ℕ) → m + 8 ≤ RECORD → little (take 8 (drop (next + m) input)) ≡ little (take 8 (drop m (record_at input next)))
  field_read m h = ap little (sym (within m 8 RECORD (drop next input) h ∙ ap (take 8) (drop-drop m next input)))

  pub key_read : little (take 8 (drop (next + 1) input)) ≡ key_of (record_at input next)
  key_read = field_read 1 (omega arith)

  pub value_read : little (take 8 (drop (next + 9) input)) ≡ value_of (record_at input next)
  value_read = field_read 9 (omega arith)
