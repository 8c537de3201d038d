-- How many keys there are at a frequency, and up to one: the two numbers of document 02, K9.
use Rattle.std.specs.Prelude.{cond, List, [], ◌∷◌, map, ℕ, length, leb}
use Rattle.lists.specs.Lists.{sum}
use Rattle.ledger.specs.Ledger.{Level, Ledger, items}
use Rattle.ledger.specs.Buckets.{Outcome, done}
use Rattle.ledger.specs.Walk.{list_of}

-- how many keys the list of frequency f has, 0 where f is not in use
abbrev pub size_at : ℕ → Ledger → ℕ
size_at f l = length (list_of f l.levels)

-- how many bound keys have a frequency of at most f: each of them counts 1
abbrev pub size_up_to : ℕ → Ledger → ℕ
size_up_to f l = sum (λ x. cond (leb x.frequency f) 1 0) (items l.levels)

-- the calls: of any number f, and always done
unfoldable pub bucket_len : ℕ → Ledger → Outcome
bucket_len f l = (done (size_at f l ∷ []), l)

unfoldable pub len_up_to : ℕ → Ledger → Outcome
len_up_to f l = (done (size_up_to f l ∷ []), l)

-- What the laws of both speak of

-- the frequencies in use, from the lowest up
abbrev pub frequencies : List Level → List ℕ
frequencies ls = map (λ m. m.frequency) ls

-- those of some frequencies that are at most f
abbrev pub up_to : ℕ → List ℕ → List ℕ
up_to f [] = []
up_to f (g ∷ gs) = cond (leb g f) (g ∷ up_to f gs) (up_to f gs)
