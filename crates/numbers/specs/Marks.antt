-- The most slots that a table may have, and the number that marks a link to nowhere. No slot has that number.
use Rattle.std.specs.Prelude.{ℕ}

abbrev pub LIMIT : ℕ
LIMIT = 4096

abbrev pub NONE : ℕ
NONE = 4096
