-- What each call asks and does. A call that is not lent some table says it for every such table that fits.
use Rattle.std.specs.Prelude.{◌≡◌, ◌≢◌, List, [], ◌∷◌, ◌++◌, ℕ, ◌*◌, ◌<◌, ◌≤◌, length, get_or, Option, Some, None}
use Rattle.numbers.specs.declared.Slot.{Slot}
use Rattle.numbers.specs.declared.Frequency.{Frequency}
use Rattle.numbers.specs.Marks.{NONE}
use Rattle.numbers.specs.Frequency.{FIRST, CEILING, raised}
use Rattle.lists.specs.Lists.{All}
use Rattle.links.specs.Ring.{upd}
use Rattle.links.specs.Chain.{cells}
use Rattle.links.specs.Linked.{Fits}
use Rattle.links.specs.declared.Ends.{Ends}
use Rattle.bucket_table.specs.declared.Buckets.{Buckets}
use Rattle.bucket_table.specs.Records.{WORDS, head, tail, owner, up, InTable, row}
use Rattle.bucket_table.specs.Calls.{HasLevel}
use Rattle.levels.specs.Levels.{Level, level, Nowhere, keep, join, touched, first, lowest, lowest_frequency, head_of, slot_list, count_of, count_up_to}
use Rattle.levels.specs.Held.{Tabs, tabs, Line, line, Missing, Lines, Held, Parted, LevelsSound}

-- ---- parts of the calls

-- slot x of three tables has been marked free
pub record Frees (f p n : List ℕ) (x : ℕ) (f' p' n' : List ℕ) : Type 0 where
  pub freqs_are : cells f' ≡ upd (cells f) x 0
  pub prevs_are : cells p' ≡ upd (cells p) x x
  pub nexts_are : cells n' ≡ upd (cells n) x x
  pub sizes : (length f' ≡ length f) × (length p' ≡ length p) × (length n' ≡ length n)

-- a slot that is put into the list of record r
pub record Attaching (f p n b : List ℕ) (r x : ℕ) : Type 0 where
  pub fits : Fits p n x
  pub freq_in : x < length f
  pub slot_in : InTable b x
  pub record_in : InTable b r

pub record Attaches (f p n b : List ℕ) (r g x : ℕ) (f' p' n' b' : List ℕ) : Type 0 where
  pub lines : (sp : List ℕ) (s : Buckets) (us : List Line) (e : Ends) (zs : List ℕ) (vs : List Line)
      → Missing x (us ++ line (row r g e) zs ∷ vs) → Lines (tabs f p n b sp) s (us ++ line (row r g e) zs ∷ vs)
      → (d : Ends) × Lines (tabs f' p' n' b' sp) s (us ++ line (row r g d) (x ∷ zs) ∷ vs)

-- a slot that moves to the front of its list, which is that of record r
pub record Fronts (p n b : List ℕ) (r x : ℕ) (p' n' b' : List ℕ) : Type 0 where
  pub holds : (f sp : List ℕ) (s : Buckets) (us : List Level) (g : ℕ) (xs ys : List ℕ) (vs : List Level)
      → r ≡ owner b x → Held (tabs f p n b sp) s (us ++ level g (xs ++ x ∷ ys) ∷ vs) → Held (tabs f p' n' b' sp) s (us ++ level g (x ∷ (xs ++ ys)) ∷ vs)

-- the list of record r has one slot at most, and the record above is not of frequency g
pub record InPlace (b : List ℕ) (s : Buckets) (r g : ℕ) : Type 0 where
  pub lone : head b r ≡ tail b r
  pub gap : HasLevel b (up b s r) g → ⊥

-- a slot that is alone in its list, whose record r gets the frequency h
pub record Lifts (f b : List ℕ) (r h x : ℕ) (f' b' : List ℕ) : Type 0 where
  pub holds : (p n sp : List ℕ) (s : Buckets) (us : List Level) (g : ℕ) (vs : List Level)
      → r ≡ owner b x → g ≤ h → h ≤ CEILING → All (λ l. h < l.freq) vs
      → Held (tabs f p n b sp) s (us ++ level g (x ∷ []) ∷ vs) → Held (tabs f' p n b' sp) s (us ++ level h (x ∷ []) ∷ vs)

-- ---- leave and enter

-- x is a slot of some level
pub record SlotBound (t : Tabs) (s : Buckets) (x : ℕ) : Type 0 where
  pub us : List Level
  pub freq : ℕ
  pub xs : List ℕ
  pub ys : List ℕ
  pub vs : List Level
  pub held : Held t s (us ++ level freq (xs ++ x ∷ ys) ∷ vs)

-- and r is its record
pub record Leaving (t : Tabs) (s : Buckets) (r x : ℕ) : Type 0 where
  pub bound : SlotBound t s x
  pub number : r ≡ owner t.buckets x

pub record LevelLeaves (t : Tabs) (s : Buckets) (x : ℕ) (t' : Tabs) (at : ℕ) (s' : Buckets) : Type 0 where
  pub size : length t'.freqs ≡ length t.freqs
  pub holds : (us : List Level) (f : ℕ) (xs ys : List ℕ) (vs : List Level)
      → Held t s (us ++ level f (xs ++ x ∷ ys) ∷ vs) → Parted t' s' at (us ++ keep f (xs ++ ys) []) vs
  pub gone : (us : List Level) (f : ℕ) (xs ys : List ℕ) (vs : List Level)
      → Held t s (us ++ level f (xs ++ x ∷ ys) ∷ vs) → Nowhere x ((us ++ keep f (xs ++ ys) []) ++ vs)

-- x is a slot of no level, and `at` is the record below a place
pub record Ready (t : Tabs) (s : Buckets) (at x : ℕ) : Type 0 where
  pub us : List Level
  pub vs : List Level
  pub parted : Parted t s at us vs
  pub slot : x < length t.freqs
  pub away : Nowhere x (us ++ vs)

pub record LevelEnters (t : Tabs) (s : Buckets) (at f x : ℕ) (t' : Tabs) (s' : Buckets) : Type 0 where
  pub holds : (us vs : List Level) → 1 ≤ f → f ≤ CEILING → All (λ l. l.freq < f) us → All (λ l. f ≤ l.freq) vs → Nowhere x (us ++ vs)
      → Parted t s at us vs → Held t' s' (us ++ join x f vs)

-- ---- the calls

pub record LevelTouches (t : Tabs) (s : Buckets) (x cap : ℕ) (t' : Tabs) (g : Frequency) (s' : Buckets) : Type 0 where
  pub answer : (us : List Level) (f : ℕ) (xs ys : List ℕ) (vs : List Level) → Held t s (us ++ level f (xs ++ x ∷ ys) ∷ vs) → g.0 ≡ raised cap f
  pub holds : (us : List Level) (f : ℕ) (xs ys : List ℕ) (vs : List Level)
      → Held t s (us ++ level f (xs ++ x ∷ ys) ∷ vs) → Held t' s' (us ++ touched cap x f (xs ++ ys) vs)

-- x is at the head of the first level, which is the lowest there can be, and the others are as they were
pub record LevelRestarts (t : Tabs) (s : Buckets) (x : ℕ) (t' : Tabs) (s' : Buckets) : Type 0 where
  pub holds : (us : List Level) (f : ℕ) (xs ys : List ℕ) (vs : List Level)
      → Held t s (us ++ level f (xs ++ x ∷ ys) ∷ vs) → Held t' s' (join x FIRST (us ++ keep f (xs ++ ys) vs))

-- x is a slot that is marked free
pub record Binding (t : Tabs) (s : Buckets) (x : ℕ) : Type 0 where
  pub sound : LevelsSound t s
  pub slot : x < length t.freqs
  pub next_own : get_or t.nexts x 0 ≡ x

pub record LevelBinds (t : Tabs) (s : Buckets) (x : ℕ) (t' : Tabs) (s' : Buckets) : Type 0 where
  pub holds : (ls : List Level) → Held t s ls → Held t' s' (join x FIRST ls)

pub record Unbinds (t : Tabs) (s : Buckets) (x : ℕ) (t' : Tabs) (s' : Buckets) : Type 0 where
  pub holds : (us : List Level) (f : ℕ) (xs ys : List ℕ) (vs : List Level)
      → Held t s (us ++ level f (xs ++ x ∷ ys) ∷ vs) → Held t' s' (us ++ keep f (xs ++ ys) vs)

-- some tables go with this one
abbrev pub SoundWith : List ℕ → Buckets → Type 0
SoundWith b s = (f : List ℕ) × (p : List ℕ) × (n : List ℕ) × (sp : List ℕ) × LevelsSound (tabs f p n b sp) s

-- the answer is the slot x, and none where x is the mark of none
abbrev pub Names : Option Slot → ℕ → Type 0
Names (Some s) x = (s.0 ≡ x) × (x ≢ NONE)
Names None x = x ≡ NONE

-- the answers are those of the levels that are held
pub record Lowest (b : List ℕ) (s : Buckets) (r : Option Slot) : Type 0 where
  pub answer : (f p n sp : List ℕ) (ls : List Level) → Held (tabs f p n b sp) s ls → Names r (lowest ls)

pub record LowestFrequency (b : List ℕ) (s : Buckets) (r : ℕ) : Type 0 where
  pub answer : (f p n sp : List ℕ) (ls : List Level) → Held (tabs f p n b sp) s ls → r ≡ lowest_frequency ls

pub record Heads (b : List ℕ) (s : Buckets) (g : ℕ) (r : Option Slot) : Type 0 where
  pub answer : (f p n sp : List ℕ) (ls : List Level) → Held (tabs f p n b sp) s ls → Names r (head_of g ls)

-- the ends of the list of frequency g, those of an empty one where the level is not in use
pub record LevelEnds (b : List ℕ) (s : Buckets) (g : ℕ) (e : Ends) : Type 0 where
  pub answer : (f p n sp : List ℕ) (ls : List Level) → Held (tabs f p n b sp) s ls
      → (e.head ≡ first (slot_list g ls)) × (e.count ≡ length (slot_list g ls))

pub record Counts (b : List ℕ) (s : Buckets) (g r : ℕ) : Type 0 where
  pub answer : (f p n sp : List ℕ) (ls : List Level) → Held (tabs f p n b sp) s ls → r ≡ count_of g ls

pub record CountsUpTo (b : List ℕ) (s : Buckets) (g r : ℕ) : Type 0 where
  pub answer : (f p n sp : List ℕ) (ls : List Level) → Held (tabs f p n b sp) s ls → r ≡ count_up_to g ls

-- no level is in use, whatever the tables held
pub record LevelsReset (f f' p' n' sp' : List ℕ) (s : Buckets) : Type 0 where
  pub holds : (b : List ℕ) → length b ≡ length f * WORDS → Held (tabs f' p' n' b sp') s []
