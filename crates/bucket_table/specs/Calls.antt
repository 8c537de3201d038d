-- What each call does to the rows. A call that is lent one of the two tables says it for every other table that fits.
use Rattle.std.specs.Prelude.{◌≡◌, ◌≢◌, ◌⊎◌, List, [], ◌∷◌, ◌++◌, ℕ, ◌*◌, ◌<◌, ◌≤◌, length}
use Rattle.numbers.specs.Marks.{LIMIT, NONE}
use Rattle.numbers.specs.Frequency.{CEILING}
use Rattle.lists.specs.Lists.{All, final}
use Rattle.links.specs.Ring.{upd, look}
use Rattle.links.specs.declared.Ends.{Ends}
use Rattle.bucket_table.specs.declared.Buckets.{Buckets}
use Rattle.bucket_table.specs.Records.{WORDS, word, frequency, lower, higher, head, tail, count, owner, up, InTable, Spot, Row, row, empty, nums, RecordsHold}

-- ---- the words

-- word w of record r has become v
pub record Stored (w : ℕ) (b : List ℕ) (r v : ℕ) (b' : List ℕ) : Type 0 where
  pub size : length b' ≡ length b
  pub made : word w b' ≡ upd (word w b) r v
  pub rest : (u : ℕ) → (u < WORDS) × (u ≢ w) → word u b' ≡ word u b

-- word w of record i has become v, or the end has
pub record Linked (w : ℕ) (b : List ℕ) (e i v : ℕ) (b' : List ℕ) (e' : ℕ) : Type 0 where
  pub size : length b' ≡ length b
  pub made : Spot b i → look (word w b') e' ≡ upd (look (word w b) e) i v
  pub rest : (u : ℕ) → (u < WORDS) × (u ≢ w) → word u b' ≡ word u b

-- record r was written, with an empty list
pub record RecordsFilled (b : List ℕ) (r f l h : ℕ) (b' : List ℕ) : Type 0 where
  pub size : length b' ≡ length b
  pub frequencies : frequency b' ≡ upd (frequency b) r f
  pub lowers : lower b' ≡ upd (lower b) r l
  pub highers : higher b' ≡ upd (higher b) r h
  pub heads : head b' ≡ upd (head b) r NONE
  pub tails : tail b' ≡ upd (tail b) r NONE
  pub counts : count b' ≡ upd (count b) r 0
  pub owners : owner b' ≡ owner b

-- ---- one row

pub record SetEnds (b : List ℕ) (r : ℕ) (e : Ends) (b' : List ℕ) : Type 0 where
  pub size : length b' ≡ length b
  pub heads : head b' ≡ upd (head b) r e.head
  pub tails : tail b' ≡ upd (tail b) r e.tail
  pub counts : count b' ≡ upd (count b) r e.count
  pub rest : (u : ℕ) → (u < WORDS) × (u ≢ 3) × (u ≢ 4) × (u ≢ 5) → word u b' ≡ word u b
  pub owners : owner b' ≡ owner b
  pub rows : (sp : List ℕ) (s : Buckets) (us : List Row) (f : ℕ) (d : Ends) (vs : List Row)
      → RecordsHold b sp s (us ++ row r f d ∷ vs) → RecordsHold b' sp s (us ++ row r f e ∷ vs)

pub record SetOwner (b : List ℕ) (x r : ℕ) (b' : List ℕ) : Type 0 where
  pub size : length b' ≡ length b
  pub owners : owner b' ≡ upd (owner b) x r
  pub rows : (sp : List ℕ) (s : Buckets) (ws : List Row) → RecordsHold b sp s ws → RecordsHold b' sp s ws

-- a frequency that is raised, but not to that of a record above it
pub record Raises (b : List ℕ) (r g : ℕ) (b' : List ℕ) : Type 0 where
  pub size : length b' ≡ length b
  pub owners : owner b' ≡ owner b
  pub rows : (sp : List ℕ) (s : Buckets) (us : List Row) (f : ℕ) (e : Ends) (vs : List Row)
      → f ≤ g → g ≤ CEILING → All (λ w. g < w.freq) vs → RecordsHold b sp s (us ++ row r f e ∷ vs) → RecordsHold b' sp s (us ++ row r g e ∷ vs)

-- ---- more rows, or fewer

-- there is a spare record, and `at` is a record or NONE
pub record Making (b sp : List ℕ) (s : Buckets) (at : ℕ) : Type 0 where
  pub size : length b ≡ length sp * WORDS
  pub limit : length sp ≤ LIMIT
  pub room : s.spare.first < length sp
  pub place : Spot b at

pub record MakesRecord (b sp : List ℕ) (s : Buckets) (at g : ℕ) (b' sp' : List ℕ) (q : ℕ) (s' : Buckets) : Type 0 where
  pub number_in : InTable b' q
  pub size : length b' ≡ length b
  pub spares_size : length sp' ≡ length sp
  pub owners : owner b' ≡ owner b
  pub rows : (us vs : List Row) → at ≡ final NONE (nums us) → length (nums (us ++ vs)) < length sp
      → 1 ≤ g → g ≤ CEILING → All (λ w. w.freq < g) us → All (λ w. g < w.freq) vs
      → RecordsHold b sp s (us ++ vs) → RecordsHold b' sp' s' (us ++ row q g empty ∷ vs)

-- the same, and what is above `at` is a record or NONE
pub record Opening (b sp : List ℕ) (s : Buckets) (at : ℕ) : Type 0 where
  pub making : Making b sp s at
  pub above : Spot b (up b s at)

-- the rows vs with record q of frequency g in front: it is the first of them already, or it is new and its list is empty
abbrev pub Opened : ℕ → ℕ → List Row → List Row → Type 0
Opened q g vs ws = (((e : Ends) × (rest : List Row) × (vs ≡ row q g e ∷ rest)) × (ws ≡ vs)) ⊎ (All (λ w. g < w.freq) vs × (ws ≡ row q g empty ∷ vs))

pub record Opens (b sp : List ℕ) (s : Buckets) (at g : ℕ) (b' sp' : List ℕ) (q : ℕ) (s' : Buckets) : Type 0 where
  pub number_in : InTable b' q
  pub size : length b' ≡ length b
  pub spares_size : length sp' ≡ length sp
  pub owners : owner b' ≡ owner b
  pub rows : (us vs : List Row) → at ≡ final NONE (nums us) → length (nums (us ++ vs)) < length sp
      → 1 ≤ g → g ≤ CEILING → All (λ w. w.freq < g) us → All (λ w. g ≤ w.freq) vs
      → RecordsHold b sp s (us ++ vs) → (ws : List Row) × Opened q g vs ws × RecordsHold b' sp' s' (us ++ ws)

pub record Dropping (b sp : List ℕ) (r : ℕ) : Type 0 where
  pub size : length b ≡ length sp * WORDS
  pub slot : r < length sp

pub record Drops (b sp : List ℕ) (s : Buckets) (r : ℕ) (b' sp' : List ℕ) (s' : Buckets) : Type 0 where
  pub size : length b' ≡ length b
  pub spares_size : length sp' ≡ length sp
  pub owners : owner b' ≡ owner b
  pub rows : (us : List Row) (f : ℕ) (e : Ends) (vs : List Row) → RecordsHold b sp s (us ++ row r f e ∷ vs) → RecordsHold b' sp' s' (us ++ vs)

-- no record is in use, whatever the table of records holds
pub record RecordsReset (sp sp' : List ℕ) (s : Buckets) : Type 0 where
  pub size : length sp' ≡ length sp
  pub rows : (b : List ℕ) → length b ≡ length sp * WORDS → RecordsHold b sp' s []

-- ---- the search

-- n is a record, of frequency f
abbrev pub HasLevel : List ℕ → ℕ → ℕ → Type 0
HasLevel b n f = (n ≢ NONE) × (frequency b n ≡ f)

-- r is the last record below frequency f
pub record PlacesRecord (b : List ℕ) (s : Buckets) (f r : ℕ) : Type 0 where
  pub place : (sp : List ℕ) (us vs : List Row) → RecordsHold b sp s (us ++ vs) → All (λ w. w.freq < f) us → All (λ w. f ≤ w.freq) vs → r ≡ final NONE (nums us)
