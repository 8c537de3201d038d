-- What every call of the buckets keeps. `calls_keep` goes once through all calls: a relation between the ledger before and the one
-- after that holds of the changes which calls are made of holds of every call. Well-formedness and the capacity are two of them.
use mathlib.Core.Path.{◌≡◌, refl, ◌∙◌}
use mathlib.Core.Option.{Option, none, some}
use mathlib.Core.List.{List, [], ◌∷◌}
use Prim.Native.Nat.{ℕ, ◌≤◌}
use native.Mathlib.Omega.{arith}
use Rattle.numbers.specs.Frequency.{CEILING, raised, cap_of}
use Rattle.lists.specs.Lists.{In}
use Rattle.ledger.specs.Ledger.{Ledger, Item, new, items, lookup, if_found, lowest, put, release, move, keyed, WellFormed}
use Rattle.ledger.specs.Buckets.{Outcome, insert_as, insert, touch, remove, pop_min, peek_min, min_freq, frequency, entry_epoch, redated, set_entry_epoch, current_epoch, at_epoch, set_epoch, advance_epoch, len, is_empty, contains, clear, batch, insert_batch, touch_batch, remove_batch}
use Rattle.ledger.specs.Regroup.{decay_halve, decay_halve_times, rebase_min_freq}
use Rattle.ledger.specs.Counts.{bucket_len, len_up_to}
use Rattle.ledger.specs.BucketCalls.{Query, PeekMin, MinFreq, Frequency, EntryEpoch, CurrentEpoch, Len, IsEmpty, Contains, WalkStart, WalkStep, BucketLen, LenUpTo, BucketCall, Ask, Insert, Touch, Remove, PopMin, SetEntryEpoch, SetEpoch, AdvanceEpoch, DecayHalve, DecayHalveTimes, RebaseMinFreq, Clear, InsertBatch, TouchBatch, RemoveBatch, asks, calls}
use Rattle.ledger.proofs.Items.{found_in, found_none}
use Rattle.ledger.proofs.Rising.{lowest_in}
use Rattle.ledger.proofs.Changes.{new_formed, put_formed, release_formed, move_formed, raised_fits, epoch_formed, redated_formed}
use Rattle.ledger.proofs.Halvings.{halvings_formed, halvings_leave, rebase_formed, rebase_leaves}

-- What holds in both cases of what is found holds of the choice
pub by_found : {A : Type 0} (P : A → Type 0) (o : Option Item) (a : A) (f : Item → A) →
    (o ≡ none → P a) → ((x : Item) → o ≡ some x → P (f x)) → P (if_found o a f)
by_found P none a f n s = n refl
by_found P (some x) a f n s = s x refl

-- Queries leave the ledger

pub queries_leave : (q : Query) (l : Ledger) → (asks q l).1 ≡ l
unfolding asks peek_min min_freq frequency entry_epoch current_epoch len is_empty contains bucket_len len_up_to
queries_leave PeekMin l = by_found (λ (o : Outcome). o.1 ≡ l) (lowest l.levels) _ _ (λ e. refl) (λ x e. refl)
queries_leave MinFreq l = by_found (λ (o : Outcome). o.1 ≡ l) (lowest l.levels) _ _ (λ e. refl) (λ x e. refl)
queries_leave (Frequency k) l = by_found (λ (o : Outcome). o.1 ≡ l) (lookup k l) _ _ (λ e. refl) (λ x e. refl)
queries_leave (EntryEpoch k) l = by_found (λ (o : Outcome). o.1 ≡ l) (lookup k l) _ _ (λ e. refl) (λ x e. refl)
queries_leave CurrentEpoch l = refl
queries_leave Len l = refl
queries_leave IsEmpty l = refl
queries_leave (Contains k) l = refl
queries_leave (WalkStart f) l = refl
queries_leave (WalkStep s) l = refl
queries_leave (BucketLen f) l = refl
queries_leave (LenUpTo f) l = refl

-- Every call keeps what its changes keep

-- R holds of the changes that calls are made of
pub record Changes (R : Ledger → Ledger → Type 0) : Type 0 where
  pub stays : (l : Ledger) → R l l
  pub goes_on : (l m n : Ledger) → R l m → R m n → R l n
  pub puts : (l : Ledger) (k s : ℕ) (rest : List ℕ) → keyed k (items l.levels) ≡ 0 → l.free ≡ s ∷ rest → R l (put k s rest l)
  pub releases : (l : Ledger) (x : Item) → In x (items l.levels) → R l (release x l)
  pub moves : (l : Ledger) (x : Item) (cap : ℕ) → In x (items l.levels) → cap ≤ CEILING → R l (move x (raised cap x.frequency) l)
  pub redates : (l : Ledger) (k n : ℕ) → R l (record { capacity = l.capacity; epoch = l.epoch; levels = redated k n l.levels; free = l.free })
  pub dates : (l : Ledger) (n : ℕ) → R l (at_epoch n l)
  pub halves : (l : Ledger) (n : ℕ) → R l (decay_halve_times n l).1
  pub rebases : (l : Ledger) → R l (rebase_min_freq l).1
  pub empties : (l : Ledger) → R l (new l.capacity)

-- a cap is a 64-bit number; nothing is asked of the other calls
abbrev pub Fits : BucketCall → Type 0
Fits (Ask q) = Unit {0}
Fits (Insert k) = Unit {0}
Fits (Touch cap k) = cap ≤ CEILING
Fits (Remove k) = Unit {0}
Fits PopMin = Unit {0}
Fits (SetEntryEpoch k n) = Unit {0}
Fits (SetEpoch n) = Unit {0}
Fits AdvanceEpoch = Unit {0}
Fits DecayHalve = Unit {0}
Fits (DecayHalveTimes n) = Unit {0}
Fits RebaseMinFreq = Unit {0}
Fits Clear = Unit {0}
Fits (InsertBatch ks) = Unit {0}
Fits (TouchBatch ks) = Unit {0}
Fits (RemoveBatch ks) = Unit {0}

module _ (R : Ledger → Ledger → Type 0) (h : Changes R) where
  insert_as_keeps : (k : ℕ) (l : Ledger) (o : Option Item) (free : List ℕ) → lookup k l ≡ o → l.free ≡ free → R l (insert_as o free k l).1
  insert_as_keeps k l (some x) free e q = h.stays l
  insert_as_keeps k l none [] e q = h.stays l
  insert_as_keeps k l none (s ∷ rest) e q = h.puts l k s rest (found_none k (items l.levels) e) q

  insert_keeps : (k : ℕ) (l : Ledger) → R l (insert k l).1
  unfolding insert
  insert_keeps k l = insert_as_keeps k l (lookup k l) l.free refl refl

  touch_keeps : (cap k : ℕ) (l : Ledger) → cap ≤ CEILING → R l (touch cap k l).1
  unfolding touch
  touch_keeps cap k l c =
      by_found (λ (o : Outcome). R l o.1) (lookup k l) _ _ (λ e. h.stays l) (λ x e. h.moves l x (cap_of cap) (found_in k (items l.levels) x e).0 (omega arith))

  remove_keeps : (k : ℕ) (l : Ledger) → R l (remove k l).1
  unfolding remove
  remove_keeps k l =
      by_found (λ (o : Outcome). R l o.1) (lookup k l) _ _ (λ e. h.stays l) (λ x e. h.releases l x (found_in k (items l.levels) x e).0)

  batch_keeps : (call : ℕ → Ledger → Outcome) → ((k : ℕ) (l : Ledger) → R l (call k l).1) → (ks : List ℕ) (l : Ledger) → R l (batch call ks l).1
  batch_keeps call f [] l = h.stays l
  batch_keeps call f (k ∷ ks) l = h.goes_on l (call k l).1 _ (f k l) (batch_keeps call f ks (call k l).1)

  pub calls_keep : (c : BucketCall) → Fits c → (l : Ledger) → R l (calls c l).1
  unfolding calls decay_halve pop_min set_entry_epoch set_epoch advance_epoch clear insert_batch touch_batch remove_batch
  calls_keep (Ask q) fits l = rw (queries_leave q l) (h.stays l)
  calls_keep (Insert k) fits l = insert_keeps k l
  calls_keep (Touch cap k) fits l = touch_keeps cap k l fits
  calls_keep (Remove k) fits l = remove_keeps k l
  calls_keep PopMin fits l =
      by_found (λ (o : Outcome). R l o.1) (lowest l.levels) _ _ (λ e. h.stays l) (λ x e. h.releases l x (lowest_in l.levels x e))
  calls_keep (SetEntryEpoch k n) fits l = by_found (λ (o : Outcome). R l o.1) (lookup k l) _ _ (λ e. h.stays l) (λ x e. h.redates l k n)
  calls_keep (SetEpoch n) fits l = h.dates l n
  calls_keep AdvanceEpoch fits l = h.dates l _
  calls_keep DecayHalve fits l = h.halves l 1
  calls_keep (DecayHalveTimes n) fits l = h.halves l n
  calls_keep RebaseMinFreq fits l = h.rebases l
  calls_keep Clear fits l = h.empties l
  calls_keep (InsertBatch ks) fits l = batch_keeps insert insert_keeps ks l
  calls_keep (TouchBatch ks) fits l = batch_keeps (touch CEILING) (λ k m. touch_keeps CEILING k m (omega arith)) ks l
  calls_keep (RemoveBatch ks) fits l = batch_keeps remove remove_keeps ks l

pub calls_formed : (c : BucketCall) → Fits c → (l : Ledger) → WellFormed l → WellFormed (calls c l).1
calls_formed = calls_keep (λ l m. WellFormed l → WellFormed m) (record {
  stays = λ l w. w;
  goes_on = λ l m n f g w. g (f w);
  puts = λ l k s rest e q w. put_formed l w k s rest e q;
  releases = λ l x i w. release_formed l w x i;
  moves = λ l x cap i c w. let r = raised_fits l w cap x i c in move_formed l w x (raised cap x.frequency) i r.0 r.1;
  redates = λ l k n w. redated_formed l w k n;
  dates = λ l n w. epoch_formed l w n;
  halves = λ l n w. halvings_formed l w n;
  rebases = λ l w. rebase_formed l w;
  empties = λ l w. new_formed l.capacity;
})

pub calls_capacity : (c : BucketCall) → Fits c → (l : Ledger) → (calls c l).1.capacity ≡ l.capacity
calls_capacity = calls_keep (λ l m. m.capacity ≡ l.capacity) (record {
  stays = λ l. refl;
  goes_on = λ l m n f g. g ∙ f;
  puts = λ l k s rest e q. refl;
  releases = λ l x i. refl;
  moves = λ l x cap i c. refl;
  redates = λ l k n. refl;
  dates = λ l n. refl;
  halves = λ l n. (halvings_leave n l).same_capacity;
  rebases = λ l. (rebase_leaves l).same_capacity;
  empties = λ l. refl;
})
