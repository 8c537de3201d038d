-- Operations of `drive` that make no call, on any kind of lent tables: one that names none, and the check that every call makes first.
use Rattle.std.specs.Prelude.{◌≡◌, Result}
use Rattle.numbers.specs.declared.Refusal.{Refusal}
use Rattle.promise.specs.Promise.{Lent, Checks}
use Rattle.answers.specs.Replies.{plain_reply}
use Rattle.trace.specs.declared.Word.TheVariants.{Bad}
use Rattle.drive_lines.specs.declared.Told.{Told}
use Rattle.drive_lines.specs.declared.Told.TheVariants.{Just}
use Rattle.drive_lines.specs.Lines.{text, reply_text}

-- `BAD`, and all stays
abbrev pub Stays : (k : Lent) → k.Tables → k.State → Told → k.Tables → k.State → Type 0
Stays k t s told t' s' = (told ≡ Just Bad) × (t' ≡ t) × (s' ≡ s)

-- the line of what the check answers
abbrev pub Reports : (k : Lent) → k.Tables → k.State → Told → Type 0
Reports k t s told = (a : Result Unit Refusal) × (text told ≡ reply_text (plain_reply a)) × Checks k t s a
