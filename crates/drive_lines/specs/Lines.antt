-- What `drive` prints for a reply: document 01's number, then the values of the answer, each after one blank. An insert into the cache has
-- its word in place of the first value.
use Rattle.std.specs.Prelude.{List, [], ◌∷◌, ◌++◌, ℕ, ◌+◌, Result, Ok, Err}
use Rattle.numbers.specs.Answer.{DONE, number_of}
use Rattle.numbers.specs.declared.Refusal.{Refusal}
use Rattle.ledger.specs.Buckets.{Reply, done, refused, number}
use Rattle.answers.specs.declared.Insertion.{Insertion}
use Rattle.answers.specs.declared.Insertion.TheVariants as insertion
use Rattle.trace.specs.declared.Line.{Line}
use Rattle.trace.specs.declared.Line.TheVariants as line
use Rattle.trace.specs.declared.Word.TheVariants as word
use Rattle.trace.specs.Lines as trace
use Rattle.trace.specs.Lines.{DIGITS, BLANK, FEED, decimal, spaced}
use Rattle.drive_lines.specs.declared.Told.{Told}
use Rattle.drive_lines.specs.declared.Told.TheVariants as told

-- the values of a reply
abbrev pub values : Reply → List ℕ
values (done ns) = ns
values (refused a) = []

-- values to the end of the line
abbrev pub ending : List ℕ → List ℕ
ending [] = FEED ∷ []
ending (n ∷ ns) = spaced n ++ ending ns

-- the line of a reply
abbrev pub reply_text : Reply → List ℕ
reply_text r = decimal (number r) ++ ending (values r)

-- `0` and a line of the trace program
abbrev pub done_line : Line → List ℕ
done_line l = decimal DONE ++ ((BLANK ∷ []) ++ trace.text l)

-- how an insert into the cache went
abbrev pub insertion_text : Result Insertion Refusal → List ℕ
insertion_text (Ok insertion.New) = done_line (line.Plain word.New)
insertion_text (Ok (insertion.NewOut k)) = done_line (line.One word.NewOut k.0)
insertion_text (Ok (insertion.Old v)) = done_line (line.One word.Old v)
insertion_text (Err why) = reply_text (refused why)

-- what is told, as bytes
abbrev pub text : Told → List ℕ
text told.Done = decimal DONE ++ ending []
text (told.One n) = decimal DONE ++ ending (n ∷ [])
text (told.Two m n) = decimal DONE ++ ending (m ∷ n ∷ [])
text (told.Stored l) = done_line l
text (told.Refused why) = decimal (number_of why) ++ ending []
text (told.Just w) = trace.text (line.Plain w)

-- room for a number, a blank and a line of the trace program
abbrev pub LONGEST_TOLD : ℕ
LONGEST_TOLD = DIGITS + (1 + trace.LONGEST)
