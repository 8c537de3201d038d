-- All that is known of the class of a key: it is one of the classes.
use Prim.Native.Nat.{ℕ, ◌<◌}
use native.Mathlib.Nat.{mod-lt}
use Rattle.key_index.specs.Class.{class_of}

pub class_below : (key n : ℕ) → 0 < n → class_of key n < n
unfolding class_of
class_below key n l = mod-lt key l
