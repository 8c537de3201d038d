-- Halving and rebasing, by the rule of document 02, K1: frequencies change, and slots, free order and last epochs stay. In each new list, keys
-- from a higher old frequency stand nearer the head, and keys of one old frequency keep their order.
use Rattle.std.specs.Prelude.{◌≡◌, ◌⊎◌, cond, List, [], ◌∷◌, ◌++◌, map, ℕ, ◌≤◌, ◌-◌, eqb}
use Rattle.numbers.specs.Frequency.{FIRST, halved_times}
use Rattle.lists.specs.Lists.{In}
use Rattle.ledger.specs.Ledger.{Entry, Level, Ledger, Item}
use Rattle.ledger.specs.Buckets.{Outcome, done}
use Rattle.ledger.specs.Walk.{list_of}

-- Lists that come together

-- a list moved to frequency f, in front of the levels above it: where the lowest of these is f already, its keys stand in front
abbrev pub join : ℕ → List Entry → List Level → List Level
join f es [] = record { frequency = f; entries = es } ∷ []
join f es (m ∷ ms) =
    cond (eqb m.frequency f)
    (record { frequency = f; entries = m.entries ++ es } ∷ ms)
    (record { frequency = f; entries = es } ∷ m ∷ ms)

-- the levels from the highest down, each moved to its new frequency
abbrev pub regroup : (ℕ → ℕ) → List Level → List Level
regroup g [] = []
regroup g (l ∷ ls) = join (g l.frequency) l.entries (regroup g ls)

-- and all but the lists as it was
abbrev pub regrouped : (ℕ → ℕ) → Ledger → Ledger
regrouped g l = record { capacity = l.capacity; epoch = l.epoch; levels = regroup g l.levels; free = l.free }

-- Halving

-- n halvings in one call: each frequency f becomes the larger of 1 and f / 2^n rounded down
unfoldable pub decay_halve_times : ℕ → Ledger → Outcome
decay_halve_times n l = (done [], regrouped (halved_times n) l)

-- `decay_halve`
unfoldable pub decay_halve : Ledger → Outcome
decay_halve l = decay_halve_times 1 l

-- Rebasing

-- f - (lowest - 1)
abbrev pub lowered : (low f : ℕ) → ℕ
lowered low f = f - (low - FIRST)

-- nothing on an empty table, nor where the lowest frequency is 1
abbrev pub rebase_by : List Level → Ledger → Ledger
rebase_by [] l = l
rebase_by (m ∷ ms) l = cond (eqb m.frequency FIRST) l (regrouped (lowered m.frequency) l)

-- `rebase_min_freq`
unfoldable pub rebase_min_freq : Ledger → Outcome
rebase_min_freq l = (done [], rebase_by l.levels l)

-- What the laws of both speak of

-- a change of frequencies that never puts a lower one above a higher one
abbrev pub NeverFalls : (ℕ → ℕ) → Type 0
NeverFalls g = (f h : ℕ) → f ≤ h → g f ≤ g h

-- an item at its new frequency: the same key, slot and epoch
abbrev pub rated : (ℕ → ℕ) → Item → Item
rated g x = record { key = x.key; frequency = g x.frequency; slot = x.slot; epoch = x.epoch }

-- all but the lists is as it was
pub record OnlyLists (l m : Ledger) : Type 0 where
  pub same_capacity : m.capacity ≡ l.capacity
  pub same_epoch : m.epoch ≡ l.epoch
  pub same_free : m.free ≡ l.free

-- the keys of a frequency's list, head first
abbrev pub keys_at : ℕ → List Level → List ℕ
keys_at f ls = map (λ x. x.key) (list_of f ls)

-- a stands before b: nearer the head
abbrev pub Nearer : (a b : ℕ) → List ℕ → Type 0
Nearer a b [] = ⊥
Nearer a b (k ∷ ks) = ((k ≡ a) × In b ks) ⊎ Nearer a b ks
