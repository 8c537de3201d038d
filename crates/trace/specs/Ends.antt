-- Where an input ends: its last line, and that it is read in parts, of which one that is not full is the last.
use Rattle.std.specs.Prelude.{Bool, false, cond, ℕ, eqb, ltb}
use Rattle.trace.specs.declared.Word.TheVariants as word
use Rattle.trace.specs.declared.Line.{Line}
use Rattle.trace.specs.declared.Line.TheVariants.{Plain, One}

-- the bytes of a full part: whole records
abbrev pub PART : ℕ
PART = 21828

-- the line at the end of the input: `left` bytes of a record that has not ended, and so many bound keys
abbrev pub last_of : (left count : ℕ) → Line
last_of left count = cond (ltb 0 left) (Plain word.Cut) (One word.End count)

-- whether there is more to read after n bytes: they are a full part, and what they print could be written
abbrev pub goes_on : (written : Bool) → (n : ℕ) → Bool
goes_on written n = cond written (eqb n PART) false
