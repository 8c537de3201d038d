-- What an input of `drive` begins and ends with.
use Rattle.std.specs.Prelude.{cond, List, [], ◌∷◌, ℕ, ltb, Option, Some, None}
use Rattle.trace.specs.declared.Word.TheVariants as word
use Rattle.trace.specs.Output.{little}
use Rattle.drive_lines.specs.declared.Told.{Told}
use Rattle.drive_lines.specs.declared.Told.TheVariants.{Just}

-- two bytes of capacity, low byte first; with fewer there is none
abbrev pub capacity_of : (first : List ℕ) → Option ℕ
capacity_of [] = None
capacity_of (b ∷ []) = None
capacity_of (low ∷ (high ∷ bs)) = Some (little (low ∷ high ∷ []))

-- the line at the end of the input, of which so many bytes are left
abbrev pub last_told : ℕ → Told
last_told left = cond (ltb 0 left) (Just word.Cut) (Just word.End)
