-- What is said of one input of a pack: the bytes that were read are at the start of the input buffer, those that are written at the start of
-- the output buffer.
use Rattle.std.specs.Prelude.{List, ℕ, take}
use Rattle.trace.specs.Output.{output}
use Rattle.trace_input.specs.Parts.{InputShows}
use Rattle.replay_cases.specs.declared.Case.{Case}

abbrev pub Told : (input out : List ℕ) → Case → Type 0
Told input out r = InputShows (output (take r.read input)) out r.at
