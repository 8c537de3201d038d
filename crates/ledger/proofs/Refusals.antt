-- Each refusal is given exactly when document 01 says, and a refused call leaves the ledger as it was. One law on a choice by what
-- is found (`no_item`) serves every call that needs a key or some key; what it asks of the ledger comes from well-formedness.
use mathlib.Core.Path.{◌≡◌, refl, ap, subst}
use mathlib.Core.Logic.{◌↔◌}
use mathlib.Core.Option.{Option, none, some}
use mathlib.Core.List.{List, [], ◌∷◌}
use Prim.Native.Nat.{ℕ}
use native.Mathlib.Omega.{arith}
use lib.ListN.{length}
use Rattle.numbers.specs.declared.Refusal.{Refusal}
use Rattle.numbers.specs.declared.Refusal.TheVariants.{Absent, Present, Full, Empty}
use Rattle.ledger.specs.Ledger.{Ledger, Item, items, lookup, if_found, size, lowest, WellFormed}
use Rattle.ledger.specs.Buckets.{Outcome, done, refused, insert_as, insert, touch, remove, pop_min, peek_min, min_freq, frequency, entry_epoch, set_entry_epoch, current_epoch, set_epoch, advance_epoch, len, is_empty, contains, clear, insert_batch, touch_batch, remove_batch}
use Rattle.ledger.specs.Regroup.{decay_halve, decay_halve_times, rebase_min_freq}
use Rattle.ledger.specs.Walk.{Step, here, no_more, absent, step_reply, start, step}
use Rattle.ledger.specs.Counts.{bucket_len, len_up_to}
use Rattle.ledger.specs.BucketCalls.{Query, PeekMin, MinFreq, Frequency, EntryEpoch, CurrentEpoch, Len, IsEmpty, Contains, WalkStart, WalkStep, BucketLen, LenUpTo, BucketCall, Ask, Insert, Touch, Remove, PopMin, SetEntryEpoch, SetEpoch, AdvanceEpoch, DecayHalve, DecayHalveTimes, RebaseMinFreq, Clear, InsertBatch, TouchBatch, RemoveBatch, asks, calls}
use Rattle.ledger.specs.Refusals.{Bound, Unbound, Refused, touches, removes, asks_frequency, asks_epoch, sets_epoch, steps, inserts, inserts_into, pops, peeks, asks_lowest}
use Rattle.ledger.proofs.Items.{found_in, found_none, none_found, in_keyed}
use Rattle.ledger.proofs.Rising.{lowest_none, lowest_some}
use Rattle.ledger.proofs.Slots.{size_and_free}
use Rattle.ledger.proofs.Kept.{queries_leave}
use Rattle.ledger.proofs.Walked.{step_absent}

-- What is done is not refused

pub done_refused : {A : Type 0} (ns : List ℕ) (a : Refusal) → done ns ≡ refused a → A
done_refused ns a e = let z : ◌≡◌ {A = ℕ} 0 1 = cc in absurd (omega arith)

pub same_refusal : (a b : Refusal) → refused a ≡ refused b → a ≡ b
same_refusal a b e = cc

-- a call that is done where an item is found
abbrev outcome : Option Item → Refusal → Ledger → (Item → List ℕ) → (Item → Ledger) → Outcome
outcome o why l ns m = if_found {A = Outcome} o (refused why, l) (λ x. (done (ns x), m x))

-- a refusal from a choice by what is found says that nothing was, and gives the one reason
pub no_item : (o : Option Item) (why a : Refusal) (l : Ledger) (ns : Item → List ℕ) (m : Item → Ledger) →
    (outcome o why l ns m).0 ≡ refused a → (o ≡ none) × (why ≡ a)
no_item none why a l ns m e = (refl, same_refusal why a e)
no_item (some x) why a l ns m e = done_refused (ns x) a e

-- what a query or a change of the kind gives where nothing is found
nothing_found : (o : Option Item) (why : Refusal) (l : Ledger) (f : Item → Outcome) → o ≡ none → (if_found o (refused why, l) f).0 ≡ refused why
nothing_found o why l f e = ap (λ z. (if_found z (refused why, l) f).0) e

found_some : (o : Option Item) → (o ≡ none → ⊥) → (x : Item) × (o ≡ some x)
found_some none h = absurd (h refl)
found_some (some x) h = (x, refl)

module _ (l : Ledger) (w : WellFormed l) where
  pub unbound_of : (k : ℕ) → lookup k l ≡ none → Unbound k l
  unbound_of k e = found_none k (items l.levels) e

  pub of_unbound : (k : ℕ) → Unbound k l → lookup k l ≡ none
  of_unbound k h = none_found k (items l.levels) h

  -- keys are found exactly when bound
  pub found_exactly : (k : ℕ) → (lookup k l ≡ none) ↔ Unbound k l
  found_exactly k = (unbound_of k, of_unbound k)

  pub empty_of : lowest l.levels ≡ none → size l ≡ 0
  empty_of e = lowest_none 0 l.levels w.rising e

  pub of_empty : size l ≡ 0 → lowest l.levels ≡ none
  of_empty h = go (lowest l.levels) refl
    where
      go : (o : Option Item) → lowest l.levels ≡ o → o ≡ none
      go none e = refl
      go (some x) e = let p = lowest_some l.levels x e in absurd (omega arith)

  -- `insert`: PRESENT before FULL

  insert_as_refused : (k : ℕ) (o : Option Item) (free : List ℕ) (a : Refusal) → lookup k l ≡ o → l.free ≡ free →
      (insert_as o free k l).0 ≡ refused a → Refused l (Insert k) a
  insert_as_refused k (some x) free a e f h =
      let p = found_in k (items l.levels) x e in
      let b : Bound k l = subst (λ (j : ℕ). Bound j l) p.1 (in_keyed (items l.levels) x p.0) in
      subst (Refused l (Insert k)) (same_refusal Present a h) (inserts k b)
  insert_as_refused k none [] a e f h =
      let p = size_and_free l w in
      let q = ap length f in
      subst (Refused l (Insert k)) (same_refusal Full a h) (inserts_into k (unbound_of k e) (omega arith))
  insert_as_refused k none (s ∷ rest) a e f h = done_refused [] a h

  insert_as_present : (k : ℕ) (o : Option Item) (free : List ℕ) → lookup k l ≡ o → Bound k l → (insert_as o free k l).0 ≡ refused Present
  insert_as_present k (some x) free e b = refl
  insert_as_present k none free e b = let z = unbound_of k e in absurd (omega arith)

  insert_as_full : (k : ℕ) (free : List ℕ) → l.free ≡ free → size l ≡ l.capacity → (insert_as none free k l).0 ≡ refused Full
  insert_as_full k [] f h = refl
  insert_as_full k (s ∷ rest) f h = let p = size_and_free l w in let q = ap length f in absurd (omega arith)

  -- the walk's step

  step_refused : (s : ℕ) (t : Step) (a : Refusal) → step_reply t ≡ refused a → (t ≡ absent) × (Absent ≡ a)
  step_refused s (here x) a e = done_refused _ a e
  step_refused s no_more a e = done_refused _ a e
  step_refused s absent a e = (refl, same_refusal Absent a e)

  start_done : (f : ℕ) (a : Refusal) → step_reply (start f l) ≡ refused a → ⊥
  unfolding start
  start_done f a e = go (Rattle.ledger.specs.Walk.list_of f l.levels) e
    where
      go : (xs : List Item) → step_reply (Rattle.ledger.specs.Walk.head xs) ≡ refused a → ⊥
      go [] q = done_refused _ a q
      go (x ∷ xs) q = done_refused _ a q

  -- a refusal of a call that needs a key says that the key is unbound
  needs_key : (k : ℕ) (c : BucketCall) (a : Refusal) (ns : Item → List ℕ) (m : Item → Ledger) → (Unbound k l → Refused l c Absent) →
      (outcome (lookup k l) Absent l ns m).0 ≡ refused a → Refused l c a
  needs_key k c a ns m r e =
      let p = no_item (lookup k l) Absent a l ns m e in subst (Refused l c) p.1 (r (unbound_of k p.0))

  needs_any : (c : BucketCall) (a : Refusal) (ns : Item → List ℕ) (m : Item → Ledger) → (size l ≡ 0 → Refused l c Empty) →
      (outcome (lowest l.levels) Empty l ns m).0 ≡ refused a → Refused l c a
  needs_any c a ns m r e =
      let p = no_item (lowest l.levels) Empty a l ns m e in subst (Refused l c) p.1 (r (empty_of p.0))

  asks_why : (q : Query) (a : Refusal) → (asks q l).0 ≡ refused a → Refused l (Ask q) a
  unfolding asks peek_min min_freq frequency entry_epoch current_epoch len is_empty contains bucket_len len_up_to
  asks_why PeekMin a e = needs_any (Ask PeekMin) a _ _ peeks e
  asks_why MinFreq a e = needs_any (Ask MinFreq) a _ _ asks_lowest e
  asks_why (Frequency k) a e = needs_key k (Ask (Frequency k)) a _ _ (asks_frequency k) e
  asks_why (EntryEpoch k) a e = needs_key k (Ask (EntryEpoch k)) a _ _ (asks_epoch k) e
  asks_why CurrentEpoch a e = done_refused _ a e
  asks_why Len a e = done_refused _ a e
  asks_why IsEmpty a e = done_refused _ a e
  asks_why (Contains k) a e = done_refused _ a e
  asks_why (WalkStart f) a e = absurd (start_done f a e)
  asks_why (WalkStep s) a e =
      let p = step_refused s (step s l) a e in subst (Refused l (Ask (WalkStep s))) p.1 (steps s ((step_absent l w s).0 p.0))
  asks_why (BucketLen f) a e = done_refused _ a e
  asks_why (LenUpTo f) a e = done_refused _ a e

  why : (c : BucketCall) (a : Refusal) → (calls c l).0 ≡ refused a → Refused l c a
  unfolding calls insert touch remove pop_min set_entry_epoch set_epoch advance_epoch clear decay_halve decay_halve_times rebase_min_freq insert_batch touch_batch remove_batch
  why (Ask q) a e = asks_why q a e
  why (Insert k) a e = insert_as_refused k (lookup k l) l.free a refl refl e
  why (Touch cap k) a e = needs_key k (Touch cap k) a _ _ (touches cap k) e
  why (Remove k) a e = needs_key k (Remove k) a _ _ (removes k) e
  why PopMin a e = needs_any PopMin a _ _ pops e
  why (SetEntryEpoch k n) a e = needs_key k (SetEntryEpoch k n) a _ _ (sets_epoch k n) e
  why (SetEpoch n) a e = done_refused _ a e
  why AdvanceEpoch a e = done_refused _ a e
  why DecayHalve a e = done_refused _ a e
  why (DecayHalveTimes n) a e = done_refused _ a e
  why RebaseMinFreq a e = done_refused _ a e
  why Clear a e = done_refused _ a e
  why (InsertBatch ks) a e = done_refused _ a e
  why (TouchBatch ks) a e = done_refused _ a e
  why (RemoveBatch ks) a e = done_refused _ a e

  refuses : (c : BucketCall) (a : Refusal) → Refused l c a → (calls c l).0 ≡ refused a
  unfolding asks calls insert touch remove pop_min peek_min min_freq frequency entry_epoch set_entry_epoch
  refuses _ _ (touches cap k h) = nothing_found (lookup k l) Absent l _ (of_unbound k h)
  refuses _ _ (removes k h) = nothing_found (lookup k l) Absent l _ (of_unbound k h)
  refuses _ _ (asks_frequency k h) = nothing_found (lookup k l) Absent l _ (of_unbound k h)
  refuses _ _ (asks_epoch k h) = nothing_found (lookup k l) Absent l _ (of_unbound k h)
  refuses _ _ (sets_epoch k n h) = nothing_found (lookup k l) Absent l _ (of_unbound k h)
  refuses _ _ (steps s h) = ap step_reply ((step_absent l w s).1 h)
  refuses _ _ (inserts k h) = insert_as_present k (lookup k l) l.free refl h
  refuses _ _ (inserts_into k h f) = rw (of_unbound k h) (insert_as_full k l.free refl f)
  refuses _ _ (pops h) = nothing_found (lowest l.levels) Empty l _ (of_empty h)
  refuses _ _ (peeks h) = nothing_found (lowest l.levels) Empty l _ (of_empty h)
  refuses _ _ (asks_lowest h) = nothing_found (lowest l.levels) Empty l _ (of_empty h)

  -- Each refusal is given exactly when document 01 says.
  pub refused_exactly : (c : BucketCall) (a : Refusal) → ((calls c l).0 ≡ refused a) ↔ Refused l c a
  refused_exactly c a = (why c a, refuses c a)

-- A refused call leaves the ledger

insert_as_leaves : (k : ℕ) (l : Ledger) (o : Option Item) (free : List ℕ) (a : Refusal) → (insert_as o free k l).0 ≡ refused a → (insert_as o free k l).1 ≡ l
insert_as_leaves k l (some x) free a e = refl
insert_as_leaves k l none [] a e = refl
insert_as_leaves k l none (s ∷ rest) a e = done_refused [] a e

found_leaves : (o : Option Item) (y a : Refusal) (l : Ledger) (ns : Item → List ℕ) (m : Item → Ledger) →
    (outcome o y l ns m).0 ≡ refused a → (outcome o y l ns m).1 ≡ l
found_leaves none y a l ns m e = refl
found_leaves (some x) y a l ns m e = done_refused (ns x) a e

pub refused_leaves : (c : BucketCall) (l : Ledger) (a : Refusal) → (calls c l).0 ≡ refused a → (calls c l).1 ≡ l
unfolding calls insert touch remove pop_min set_entry_epoch set_epoch advance_epoch clear decay_halve decay_halve_times rebase_min_freq insert_batch touch_batch remove_batch
refused_leaves (Ask q) l a e = queries_leave q l
refused_leaves (Insert k) l a e = insert_as_leaves k l (lookup k l) l.free a e
refused_leaves (Touch cap k) l a e = found_leaves (lookup k l) Absent a l _ _ e
refused_leaves (Remove k) l a e = found_leaves (lookup k l) Absent a l _ _ e
refused_leaves PopMin l a e = found_leaves (lowest l.levels) Empty a l _ _ e
refused_leaves (SetEntryEpoch k n) l a e = found_leaves (lookup k l) Absent a l _ _ e
refused_leaves (SetEpoch n) l a e = done_refused _ a e
refused_leaves AdvanceEpoch l a e = done_refused _ a e
refused_leaves DecayHalve l a e = done_refused _ a e
refused_leaves (DecayHalveTimes n) l a e = done_refused _ a e
refused_leaves RebaseMinFreq l a e = done_refused _ a e
refused_leaves Clear l a e = done_refused _ a e
refused_leaves (InsertBatch ks) l a e = done_refused _ a e
refused_leaves (TouchBatch ks) l a e = done_refused _ a e
refused_leaves (RemoveBatch ks) l a e = done_refused _ a e
