-- The line of each answer of a cache call, as the code has the answer.
use Rattle.std.specs.Prelude.{ℕ, Result, Ok, Err}
use Rattle.numbers.specs.declared.Key.{Key}
use Rattle.numbers.specs.declared.Frequency.{Frequency}
use Rattle.numbers.specs.declared.Refusal.{Refusal}
use Rattle.answers.specs.declared.Insertion.{Insertion}
use Rattle.answers.specs.declared.Insertion.TheVariants as insertion
use Rattle.trace.specs.declared.Word.{Word}
use Rattle.trace.specs.declared.Word.TheVariants as word
use Rattle.trace.specs.declared.Line.{Line}
use Rattle.trace.specs.declared.Line.TheVariants.{Plain, One, Two}

abbrev pub insertion_line : Result Insertion Refusal → Line
insertion_line (Ok insertion.New) = Plain word.New
insertion_line (Ok (insertion.NewOut k)) = One word.NewOut k.0
insertion_line (Ok (insertion.Old v)) = One word.Old v
insertion_line (Err why) = Plain word.Full

abbrev pub value_line : Word → Result ℕ Refusal → Line
value_line w (Ok v) = One w v
value_line w (Err why) = Plain word.Miss

abbrev pub least_line : Word → Result (Key × ℕ) Refusal → Line
least_line w (Ok p) = Two w p.0.0 p.1
least_line w (Err why) = Plain word.Nothing

abbrev pub level_line : Result Frequency Refusal → Line
level_line (Ok f) = One word.Reset f.0
level_line (Err why) = Plain word.Miss
