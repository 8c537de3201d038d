-- What the two loops of the check find out.
use Rattle.std.specs.Prelude.{◌≡◌, Bool, List, ℕ, length, get_or, eqb}
use Rattle.numbers.specs.Marks.{NONE}
use Rattle.lists.specs.Lists.{final}
use Rattle.lists.specs.Marks.{count}
use Rattle.links.specs.Chain.{Walked, cells}
use Rattle.slot_arena.specs.Arena.{USED}
use Rattle.slot_arena.specs.declared.Reached.{Reached}

-- slot s is marked as one in use
abbrev pub marked : List ℕ → ℕ → Bool
marked t s = eqb (get_or t s 0) USED

-- how many slots are marked as in use
abbrev pub used_in : List ℕ → ℕ
used_in t = count (marked t) (length t)

-- the slots that a walk of the links from f passed, as many as it says and the last of them as it says
pub record Walks (t : List ℕ) (f : ℕ) (r : Reached) : Type 0 where
  pub passed : List ℕ
  pub many : length passed ≡ r.steps
  pub final_one : final NONE passed ≡ r.last
  pub walked : Walked (length t) (cells t) f passed r.at
