-- What one step of regrouping asks and does. The levels that are done are listed from the highest down: the one that the next slot may join
-- stands first.
use Rattle.std.specs.Prelude.{◌≡◌, ◌≢◌, cond, List, [], ◌∷◌, ◌++◌, ℕ, ◌<◌, ◌≤◌, eqb}
use Rattle.numbers.specs.Marks.{NONE}
use Rattle.lists.specs.Lists.{In}
use Rattle.links.specs.Ring.{look}
use Rattle.bucket_table.specs.declared.Buckets.{Buckets}
use Rattle.bucket_table.specs.Records.{frequency, lower, owner, InTable}
use Rattle.levels.specs.Levels.{Level, level, keep, join}
use Rattle.levels.specs.Held.{Tabs, Held}

-- the levels ds, listed from the highest down, below the levels ls
abbrev pub under : (ds ls : List Level) → List Level
under [] ls = ls
under (d ∷ ds) ls = under ds (d ∷ ls)

-- the frequency of the first of ds, 0 where there is none
abbrev pub height : List Level → ℕ
height [] = 0
height (d ∷ ds) = d.freq

-- x is a slot of the first of ds, NONE where there is none
abbrev pub Top : List Level → ℕ → Type 0
Top [] x = x ≡ NONE
Top (d ∷ ds) x = In x d.slots

-- a slot, unless it is NONE, and its record are in the table
abbrev pub Reachable : List ℕ → ℕ → Type 0
Reachable b x = x ≢ NONE → InTable b x × (owner b x < NONE) × InTable b (owner b x)

-- the record of slot x, or, where that has the frequency f, the one below it; NONE where x is NONE
abbrev pub place_above : List ℕ → ℕ → ℕ → ℕ
place_above b x f = look (λ y. cond (eqb (frequency b (owner b y)) f) (lower b (owner b y)) (owner b y)) NONE x

-- The tables hold the levels `lower`, listed from the highest down, above them a level whose tail is x, and above it `upper`. r is the record of
-- x, and `last` is a slot of the highest of `lower`, which is not above the new frequency.
pub record Falling (g : ℕ → ℕ) (t : Tabs) (s : Buckets) (r x last : ℕ) : Type 0 where
  pub lower : List Level
  pub freq : ℕ
  pub others : List ℕ
  pub upper : List Level
  pub held : Held t s (under lower (level freq (others ++ x ∷ []) ∷ upper))
  pub number : r ≡ owner t.buckets x
  pub top : Top lower last
  pub low : height lower ≤ g freq

-- x has come to the head of the level of its new frequency, which is the highest of `lower` or is made; where the frequency stays nothing has
-- changed
pub record Falls (g : ℕ → ℕ) (t : Tabs) (s : Buckets) (r x last : ℕ) (t' : Tabs) (s' : Buckets) : Type 0 where
  pub falls : (q : Falling g t s r x last) → g q.freq < q.freq
      → Held t' s' (under (join x (g q.freq) q.lower) (keep q.freq q.others q.upper))
  pub stays : (q : Falling g t s r x last) → g q.freq ≡ q.freq
      → Held t' s' (under q.lower (level q.freq (q.others ++ x ∷ []) ∷ q.upper))
