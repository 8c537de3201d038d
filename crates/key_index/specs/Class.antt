-- The class that a key belongs to. Nothing but the laws of this one definition (proofs/Class.antt) looks into it, so that another spread of the keys is a change here.
use Rattle.std.specs.Prelude.{ℕ, ◌%◌}

-- a key's class, of n many
unfoldable pub class_of : (key n : ℕ) → ℕ
class_of key n = key % n
