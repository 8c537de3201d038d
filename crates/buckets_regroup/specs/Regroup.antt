-- Levels at their new frequencies: the ledger's `regroup`, said of lists of slots.
use Rattle.std.specs.Prelude.{cond, List, [], ◌∷◌, ◌++◌, ℕ, eqb}
use Rattle.bucket_table.specs.declared.Buckets.{Buckets}
use Rattle.levels.specs.Levels.{Level, level}
use Rattle.levels.specs.Held.{Tabs, Held}

-- the slots xs moved to frequency f, below the levels ls: where the lowest of these is f already, its slots stand in front
abbrev pub settle : ℕ → List ℕ → List Level → List Level
settle f xs [] = level f xs ∷ []
settle f xs (l ∷ ls) = cond (eqb l.freq f) (level f (l.slots ++ xs) ∷ ls) (level f xs ∷ l ∷ ls)

-- the levels from the highest down, each moved to its new frequency
abbrev pub regroup : (ℕ → ℕ) → List Level → List Level
regroup g [] = []
regroup g (l ∷ ls) = settle (g l.freq) l.slots (regroup g ls)

-- all levels at their new frequencies
pub record Regroups (g : ℕ → ℕ) (t : Tabs) (s : Buckets) (t' : Tabs) (s' : Buckets) : Type 0 where
  pub holds : (ls : List Level) → Held t s ls → Held t' s' (regroup g ls)
