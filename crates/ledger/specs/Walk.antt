-- The walk of one frequency: its keys with slot, frequency and epoch, head first.
use Rattle.std.specs.Prelude.{◌≡◌, cond, List, [], ◌∷◌, ℕ, eqb}
use Rattle.numbers.specs.declared.Refusal.TheVariants.{Absent}
use Rattle.ledger.specs.Ledger.{Level, Ledger, Item, tag, items}
use Rattle.ledger.specs.Buckets.{Reply, done, refused}

-- where a walk stands: at a key, past the last one, or nowhere
pub data Step : Type 0 where
  here : Item → Step
  no_more : Step
  absent : Step

-- DONE with the slot, DONE with no more, or ABSENT
abbrev pub step_reply : Step → Reply
step_reply (here x) = done (x.slot ∷ x.key ∷ x.frequency ∷ x.epoch ∷ [])
step_reply no_more = done []
step_reply absent = refused Absent

-- the list of a frequency, empty where it is not in use
abbrev pub list_of : ℕ → List Level → List Item
list_of f [] = []
list_of f (l ∷ ls) = cond (eqb l.frequency f) (tag f l.entries []) (list_of f ls)

abbrev pub head : List Item → Step
head [] = no_more
head (x ∷ xs) = here x

-- the start answers the head; a frequency not in use starts at "no more"
unfoldable pub start : ℕ → Ledger → Step
start f l = head (list_of f l.levels)

-- what stands after slot s in a list
abbrev pub after : ℕ → List Item → Step
after s [] = absent
after s (x ∷ xs) = cond (eqb x.slot s) (head xs) (after s xs)

-- the items in slot s
abbrev pub in_slot : ℕ → List Item → List Item
in_slot s [] = []
in_slot s (x ∷ xs) = cond (eqb x.slot s) (x ∷ in_slot s xs) (in_slot s xs)

abbrev pub after_item : List Item → ℕ → Ledger → Step
after_item [] s l = absent
after_item (x ∷ xs) s l = after s (list_of x.frequency l.levels)

-- a step answers the slot after a bound one, in the list of that one's frequency; from a free slot or one out of range it is ABSENT
unfoldable pub step : ℕ → Ledger → Step
step s l = after_item (in_slot s (items l.levels)) s l

-- a walk that has come to a step shows exactly the keys xs from there on, and then "no more"
abbrev pub Shows : Ledger → Step → List Item → Type 0
Shows l s [] = s ≡ no_more
Shows l s (x ∷ xs) = (s ≡ here x) × Shows l (step x.slot l) xs
