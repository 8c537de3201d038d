-- Each call that only answers gives the ledger's reply: by what was found in the index, by the lowest list, and by the lengths of the lists.
use mathlib.Core.Path.{◌≡◌, refl, sym, ap, ◌∙◌}
use mathlib.Core.Logic.{◌≢◌}
use mathlib.Core.Option.{none, some}
use mathlib.Core.List.{List, [], ◌∷◌}
use Prim.Native.Nat.{ℕ, ◌<◌}
use native.Mathlib.Omega.{arith}
use lib.Dec.{eqb}
use lib.ListN.{length}
use Rattle.std.proofs.Common.{Option as Maybe, Some, None}
use Rattle.std.specs.Option.{is_some}
use Rattle.numbers.specs.declared.Refusal.TheVariants.{Absent, Empty}
use Rattle.numbers.specs.declared.Slot.{Slot}
use Rattle.ledger.specs.Ledger.{Entry, Level, Ledger, Item, if_found, lookup, tail, lowest, NonEmpty, Rising}
use Rattle.ledger.specs.Buckets.{Outcome, done, refused, yes_no, contains, frequency, entry_epoch, current_epoch, len, is_empty, min_freq, peek_min}
use Rattle.ledger.specs.Counts.{bucket_len, len_up_to}
use Rattle.promise.specs.Promise.{Tells}
use Rattle.links.specs.Chain.{cells}
use Rattle.key_index.specs.Index as index
use Rattle.levels.specs.Levels as levels
use Rattle.levels.specs.Calls.{Names, Lowest, Counts, CountsUpTo}
use Rattle.buckets_tables.specs.declared.State.{State}
use Rattle.buckets_tables.specs.Tables.{Tables}
use Rattle.buckets_tables.specs.Holds.{lowest_of, Holds}
use Rattle.buckets_tables.proofs.Found.{Stands, found_at, found_nothing, lowest_nothing}
use Rattle.buckets_tables.proofs.Asked.{slot_limit, slot_sized}
use Rattle.buckets_tables.proofs.Doing.{least, stands_x, pop_bound}
use Rattle.buckets_tables.proofs.Sizes.{size_at_lem, size_up_to_lem}
use Rattle.buckets_tables.specs.Lent.{buckets}
use Rattle.buckets_reads.specs.Reads.{Peekable}

-- A key that the index finds, or does not

-- what a call says that asks for one number of a bound key
abbrev asked : (Item → ℕ) → ℕ → Ledger → Outcome
asked g k l = if_found (lookup k l) (refused Absent, l) (λ y. (done (g y ∷ []), l))

module _ (t : Tables) (s : State) (key : ℕ) where
  pub contains_told : (r : Maybe Slot) → index.Finds t.index t.keys key r → Tells buckets (contains key) t s (done (yes_no (is_some r) ∷ []))
  unfolding contains
  contains_told (Some x) f l h = rw (found_at t s l h key x f).found
  contains_told None f l h = rw (found_nothing t s l h key f)

  module _ (absent : index.Finds t.index t.keys key None) where
    asked_absent : (g : Item → ℕ) → Tells buckets (asked g key) t s (refused Absent)
    asked_absent g l h = rw (found_nothing t s l h key absent)

    pub frequency_absent : Tells buckets (frequency key) t s (refused Absent)
    unfolding frequency
    frequency_absent = asked_absent (λ y. y.frequency)

    pub epoch_absent : Tells buckets (entry_epoch key) t s (refused Absent)
    unfolding entry_epoch
    epoch_absent = asked_absent (λ y. y.epoch)

  module _ (x : Slot) (at_x : index.Finds t.index t.keys key (Some x)) where
    asked_found : (g : Item → ℕ) (n : ℕ) → ((l : Ledger) (h : Holds t s l) (y : Item) → Stands t s l h y x.0 → n ≡ g y) → Tells buckets (asked g key) t s (done (n ∷ []))
    asked_found g n same l h =
        let w = found_at t s l h key x at_x in
        rw w.found (ap (λ (m : ℕ). done (m ∷ [])) (same l h w.item_is w.there_is))

    pub frequency_found : Tells buckets (frequency key) t s (done (cells t.freqs x.0 ∷ []))
    unfolding frequency
    frequency_found = asked_found (λ y. y.frequency) (cells t.freqs x.0) (λ l h y st. st.frequency)

    pub epoch_found : Tells buckets (entry_epoch key) t s (done (cells t.epochs x.0 ∷ []))
    unfolding entry_epoch
    epoch_found = asked_found (λ y. y.epoch) (cells t.epochs x.0) (λ l h y st. st.epoch)

-- The lowest frequency

-- the tail of a list that is not empty has the list's frequency
tail_some : (f : ℕ) (e : Entry) (es : List Entry) → (y : Item) × (tail f (e ∷ es) ≡ some y) × (y.frequency ≡ f)
tail_some f e [] = (_, refl, refl)
tail_some f e (d ∷ es) = tail_some f d es

-- a lowest frequency of 0 says that there is no level, and any other is that of the tail of the lowest list
none_lowest : (ls : List Level) → Rising 0 ls → lowest_of ls ≡ 0 → lowest ls ≡ none
none_lowest [] r e = refl
none_lowest (l ∷ ls) r e = let a = r.0 in absurd (omega arith)

some_lowest : (ls : List Level) → Rising 0 ls → lowest_of ls ≢ 0 → (y : Item) × (lowest ls ≡ some y) × (y.frequency ≡ lowest_of ls)
some_lowest [] r d = absurd (d refl)
some_lowest (l ∷ ls) r d = go l.entries r.2
  where
    go : (es : List Entry) → NonEmpty es → (y : Item) × (tail l.frequency es ≡ some y) × (y.frequency ≡ l.frequency)
    go [] n = elim n [ ]
    go (e ∷ es) n = tail_some l.frequency e es

module _ (t : Tables) (s : State) where
  pub min_empty : s.lowest ≡ 0 → Tells buckets min_freq t s (refused Empty)
  unfolding min_freq
  min_empty e l h = rw (none_lowest l.levels h.formed.rising (sym h.lowest ∙ e))

  pub min_some : s.lowest ≢ 0 → Tells buckets min_freq t s (done (s.lowest ∷ []))
  unfolding min_freq
  min_some d l h =
      let w = some_lowest l.levels h.formed.rising (λ q. d (h.lowest ∙ q)) in
      rw w.1 (ap (λ (m : ℕ). done (m ∷ [])) (h.lowest ∙ sym w.2))

  -- epoch and count of the state are the ledger's

  pub epoch_told : Tells buckets current_epoch t s (done (s.epoch ∷ []))
  unfolding current_epoch
  epoch_told l h = ap (λ (m : ℕ). done (m ∷ [])) h.epoch

  pub len_told : Tells buckets len t s (done (s.count ∷ []))
  unfolding len
  len_told l h = ap (λ (m : ℕ). done (m ∷ [])) h.count

  pub empty_told : Tells buckets is_empty t s (done (yes_no (eqb s.count 0) ∷ []))
  unfolding is_empty
  empty_told l h = ap (λ (m : ℕ). done (yes_no (eqb m 0) ∷ [])) h.count

-- The tail of the lowest list

module _ (t : Tables) (s : State) where
  pub peek_empty : ((l : Ledger) (h : Holds t s l) → Names None (levels.lowest h.slots)) → Tells buckets peek_min t s (refused Empty)
  unfolding peek_min
  peek_empty low l h = rw (lowest_nothing t s l h (low l h))

  pub peek_some : (x : Slot) → ((l : Ledger) (h : Holds t s l) → Names (Some x) (levels.lowest h.slots)) →
      Tells buckets peek_min t s (done (cells t.keys x.0 ∷ cells t.freqs x.0 ∷ []))
  unfolding peek_min
  peek_some x low l h =
      let w = least t s x low l h in
      let st = stands_x t s x low l h in
      rw w.1.is (λ i. done (st.key i ∷ st.frequency i ∷ []))

-- it lies in the tables, and its number is small enough for a place in memory
pub peek_below : (k f b : List ℕ) (s : State) (x : Slot) → Peekable k f b s → Lowest b s.buckets (Some x) → (x.0 < 4096) × (x.0 < length k) × (x.0 < length f)
peek_below k f b s x (e, p, n, a, i, sp, w) low =
    let bound = pop_bound _ s x (λ l h. low.answer _ _ _ _ _ h.lists) w in
    let z = slot_sized _ s x.0 bound in
    (slot_limit _ s x.0 bound, z.0, z.3)

-- The lengths of the lists

module _ (t : Tables) (s : State) (g n : ℕ) where
  pub bucket_len_told : Counts t.buckets s.buckets g n → Tells buckets (bucket_len g) t s (done (n ∷ []))
  unfolding bucket_len
  bucket_len_told c l h =
      ap (λ (m : ℕ). done (m ∷ []))
      (c.answer _ _ _ _ h.slots h.lists ∙ sym (size_at_lem t.keys t.epochs l h.slots h.entries g))

  pub len_up_to_told : CountsUpTo t.buckets s.buckets g n → Tells buckets (len_up_to g) t s (done (n ∷ []))
  unfolding len_up_to
  len_up_to_told c l h =
      ap (λ (m : ℕ). done (m ∷ []))
      (c.answer _ _ _ _ h.slots h.lists ∙ sym (size_up_to_lem t.keys t.epochs l h.slots h.entries g))
