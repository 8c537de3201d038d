-- The free order is one queue: what is handed out leaves it in front, what is taken back joins it behind. That is one equation of lists for each
-- call (`one_queue`), and the equations of a sequence are one again; from it a freed slot rests longest. What is handed out and taken back are
-- exactly the slots that the call binds and frees: by counting, from the same equation.
use mathlib.Core.Path.{◌≡◌, refl, sym, ap, ◌∙◌}
use mathlib.Core.Logic.{◌⊎◌, inl, inr, ◌≢◌, ◌↔◌}
use mathlib.Core.Option.{Option, none, some}
use mathlib.Core.List.{List, [], ◌∷◌, ◌++◌, append_assoc, append-nil, map}
use Prim.Native.Nat.{ℕ, ◌+◌, ◌≤◌}
use native.Mathlib.Omega.{arith}
use lib.ListN.{length, length-append}
use Rattle.numbers.specs.Frequency.{FIRST, CEILING}
use Rattle.lists.specs.Lists.{In, Without, from, one, times}
use Rattle.lists.proofs.Tests.{one_same}
use Rattle.lists.proofs.Members.{sum_append, in_times, times_in, times_without}
use Rattle.ledger.specs.Ledger.{Entry, Ledger, Item, new, items, lookup, if_found, lowest, release, slotted, WellFormed}
use Rattle.ledger.specs.Buckets.{Reply, Outcome, insert_as, insert, touch, remove, pop_min, set_entry_epoch, set_epoch, advance_epoch, batch, insert_batch, touch_batch, remove_batch}
use Rattle.ledger.specs.Regroup.{decay_halve}
use Rattle.ledger.specs.BucketCalls.{BucketCall, Ask, Insert, Touch, Remove, PopMin, SetEntryEpoch, SetEpoch, AdvanceEpoch, DecayHalve, DecayHalveTimes, RebaseMinFreq, Clear, InsertBatch, TouchBatch, RemoveBatch, calls, after_calls}
use Rattle.ledger.specs.Rests.{slot_of, if_done, handed, each_of, traffic, hands, gives, hands_all, gives_all, BoundIn, NeverClears, RestsLongest}
use Rattle.ledger.proofs.Items.{found_none, found_link}
use Rattle.ledger.proofs.Slots.{below, below_le}
use Rattle.ledger.proofs.Halvings.{halvings_leave, rebase_leaves}
use Rattle.ledger.proofs.Kept.{by_found, queries_leave, Fits, calls_formed, calls_capacity}

-- One queue

-- an insert hands out the first free slot, or none
insert_as_queue : (k : ℕ) (l : Ledger) (o : Option Item) (free : List ℕ) → lookup k l ≡ o → l.free ≡ free →
    let r = insert_as o free k l in if_done r.0 (slot_of k r.1) ++ r.1.free ≡ l.free
insert_as_queue k l (some x) free e q = refl
insert_as_queue k l none [] e q = refl
insert_as_queue k l none (s ∷ rest) e q =
    let new-entry : Entry = record { key = k; slot = s; epoch = l.epoch } in
    rw (found_link FIRST new-entry l.levels (found_none k (items l.levels) e)) (sym q)

insert_queue : (k : ℕ) (l : Ledger) → handed k l ++ (insert k l).1.free ≡ l.free
unfolding insert
insert_queue k l = insert_as_queue k l (lookup k l) l.free refl refl

-- a key that is let go leaves its slot behind the others
release_queue : (l : Ledger) (o : Option Item) (a : Reply) (r : Item → Reply) →
    (if_found {A = Outcome} o (a, l) (λ x. (r x, release x l))).1.free ≡ l.free ++ if_found o [] (λ x. x.slot ∷ [])
release_queue l none a r = sym (append-nil l.free)
release_queue l (some x) a r = refl

remove_queue : (k : ℕ) (l : Ledger) → (remove k l).1.free ≡ l.free ++ slot_of k l
unfolding remove
remove_queue k l = release_queue l (lookup k l) _ _

touch_leaves : (cap k : ℕ) (l : Ledger) → (touch cap k l).1.free ≡ l.free
unfolding touch
touch_leaves cap k l = by_found (λ (o : Outcome). o.1.free ≡ l.free) (lookup k l) _ _ (λ e. refl) (λ x e. refl)

-- batches, key by key

inserts_queue : (ks : List ℕ) (l : Ledger) → each_of insert handed ks l ++ (batch insert ks l).1.free ≡ l.free
inserts_queue [] l = refl
inserts_queue (k ∷ ks) l =
    append_assoc (handed k l) (each_of insert handed ks (insert k l).1) (batch insert ks (insert k l).1).1.free
    ∙ ap (λ (r : List ℕ). handed k l ++ r) (inserts_queue ks (insert k l).1) ∙ insert_queue k l

removes_queue : (ks : List ℕ) (l : Ledger) → (batch remove ks l).1.free ≡ l.free ++ each_of remove slot_of ks l
removes_queue [] l = sym (append-nil l.free)
removes_queue (k ∷ ks) l =
    removes_queue ks (remove k l).1 ∙ ap (λ (r : List ℕ). r ++ each_of remove slot_of ks (remove k l).1) (remove_queue k l)
    ∙ append_assoc l.free (slot_of k l) (each_of remove slot_of ks (remove k l).1)

touches_leave : (ks : List ℕ) (l : Ledger) → (batch (touch CEILING) ks l).1.free ≡ l.free
touches_leave [] l = refl
touches_leave (k ∷ ks) l = touches_leave ks (touch CEILING k l).1 ∙ touch_leaves CEILING k l

-- nothing joins
none_joins : (free free' : List ℕ) → free' ≡ free → free' ≡ free ++ []
none_joins free free' e = e ∙ sym (append-nil free)

-- The free order is one queue: what a call hands out leaves it in front, what it takes back joins it behind.
pub one_queue : (c : BucketCall) → c ≢ Clear → (l : Ledger) → hands c l ++ (calls c l).1.free ≡ l.free ++ gives c l
unfolding traffic calls pop_min set_entry_epoch set_epoch advance_epoch decay_halve insert_batch touch_batch remove_batch
one_queue (Ask q) d l = none_joins _ _ (ap (λ (m : Ledger). m.free) (queries_leave q l))
one_queue (Insert k) d l = none_joins _ _ (insert_queue k l)
one_queue (Touch cap k) d l = none_joins _ _ (touch_leaves cap k l)
one_queue (Remove k) d l = remove_queue k l
one_queue PopMin d l = release_queue l (lowest l.levels) _ _
one_queue (SetEntryEpoch k n) d l =
    none_joins _ _ (by_found (λ (o : Outcome). o.1.free ≡ l.free) (lookup k l) _ _ (λ e. refl) (λ x e. refl))
one_queue (SetEpoch n) d l = none_joins _ _ refl
one_queue AdvanceEpoch d l = none_joins _ _ refl
one_queue DecayHalve d l = none_joins _ _ (halvings_leave 1 l).same_free
one_queue (DecayHalveTimes n) d l = none_joins _ _ (halvings_leave n l).same_free
one_queue RebaseMinFreq d l = none_joins _ _ (rebase_leaves l).same_free
one_queue Clear d l = absurd (d refl)
one_queue (InsertBatch ks) d l = none_joins _ _ (inserts_queue ks l)
one_queue (TouchBatch ks) d l = none_joins _ _ (touches_leave ks l)
one_queue (RemoveBatch ks) d l = removes_queue ks l

-- and so over a sequence of calls
pub one_queue_all : (cs : List BucketCall) → NeverClears cs → (l : Ledger) → hands_all l cs ++ (after_calls l cs).free ≡ l.free ++ gives_all l cs
one_queue_all [] d l = sym (append-nil l.free)
one_queue_all (c ∷ cs) d l =
    let m = (calls c l).1 in
    append_assoc (hands c l) (hands_all m cs) (after_calls m cs).free
    ∙ ap (λ (r : List ℕ). hands c l ++ r) (one_queue_all cs d.1 m)
    ∙ sym (append_assoc (hands c l) m.free (gives_all m cs))
    ∙ ap (λ (r : List ℕ). r ++ gives_all m cs) (one_queue c d.0 l)
    ∙ append_assoc l.free (gives c l) (gives_all m cs)

-- In a new table the slots are handed out in the order 0, 1, 2 and so on, and then in the order in which they were freed.
pub one_queue_new : (n : ℕ) (cs : List BucketCall) → NeverClears cs →
    hands_all (new n) cs ++ (after_calls (new n) cs).free ≡ from 0 n ++ gives_all (new n) cs
one_queue_new n cs d = one_queue_all cs d (new n)

-- What is handed out, what is taken back

-- a batch hands out and takes back what its single calls do
pub batch_hands : (ks : List ℕ) (l : Ledger) → hands (InsertBatch ks) l ≡ hands_all l (map Insert ks)
unfolding traffic calls
batch_hands [] l = refl
batch_hands (k ∷ ks) l = ap (λ (r : List ℕ). handed k l ++ r) (batch_hands ks (insert k l).1)

pub batch_gives : (ks : List ℕ) (l : Ledger) → gives (RemoveBatch ks) l ≡ gives_all l (map Remove ks)
unfolding traffic calls
batch_gives [] l = refl
batch_gives (k ∷ ks) l = ap (λ (r : List ℕ). slot_of k l ++ r) (batch_gives ks (remove k l).1)

-- no call does both; and what is asked of a call that takes slots back is nothing
one_way : (c : BucketCall) (l : Ledger) → (gives c l ≡ []) ⊎ ((hands c l ≡ []) × Fits c)
unfolding traffic
one_way (Ask q) l = inl refl
one_way (Insert k) l = inl refl
one_way (Touch cap k) l = inl refl
one_way (Remove k) l = inr (refl, tt)
one_way PopMin l = inr (refl, tt)
one_way (SetEntryEpoch k n) l = inl refl
one_way (SetEpoch n) l = inl refl
one_way AdvanceEpoch l = inl refl
one_way DecayHalve l = inl refl
one_way (DecayHalveTimes n) l = inl refl
one_way RebaseMinFreq l = inl refl
one_way Clear l = inl refl
one_way (InsertBatch ks) l = inl refl
one_way (TouchBatch ks) l = inl refl
one_way (RemoveBatch ks) l = inr (refl, tt)

module _ (l : Ledger) (w : WellFormed l) (c : BucketCall) (fits : Fits c) (d : c ≢ Clear) (s : ℕ) where
  -- how often s stands in each: what it is counted by
  record Counted : Type 0 where
    moved : times s (hands c l) + times s (calls c l).1.free ≡ times s l.free + times s (gives c l)
    either : (times s (hands c l) ≡ 0) ⊎ (times s (gives c l) ≡ 0)
    before : slotted s (items l.levels) + times s l.free ≤ 1
    after : slotted s (items (calls c l).1.levels) + times s (calls c l).1.free ≡ slotted s (items l.levels) + times s l.free

  counted : Counted
  counted = record {
    moved =
        sym (sum_append (λ x. one x s) (hands c l) (calls c l).1.free) ∙ ap (times s) (one_queue c d l)
        ∙ sum_append (λ x. one x s) l.free (gives c l);
    either = go (one_way c l);
    before = omega (arith, w.slots s, below_le s l.capacity);
    after = (calls_formed c fits l w).slots s ∙ ap (λ (n : ℕ). below s n) (calls_capacity c fits l) ∙ sym (w.slots s);
  }
    where
      go : (gives c l ≡ []) ⊎ ((hands c l ≡ []) × Fits c) → (times s (hands c l) ≡ 0) ⊎ (times s (gives c l) ≡ 0)
      go (inl e) = inr (ap (times s) e)
      go (inr e) = inl (ap (times s) e.0)

  -- A slot is handed out by a call exactly if it was free before it and is bound after it.
  pub handed_exactly : In s (hands c l) ↔ (In s l.free × BoundIn s (calls c l).1)
  handed_exactly = go counted counted.either
    where
      go : Counted → (times s (hands c l) ≡ 0) ⊎ (times s (gives c l) ≡ 0) → In s (hands c l) ↔ (In s l.free × BoundIn s (calls c l).1)
      go h (inl z) = (
        λ i. absurd (omega (arith, in_times s (hands c l) i)),
        λ p. absurd (omega (arith, in_times s l.free p.0, p.1, h.moved, h.before, h.after)),
      )
      go h (inr z) = (
        λ i.
            let n = in_times s (hands c l) i in
            (times_in s l.free (omega (arith, h.moved)), omega (arith, h.moved, h.before, h.after)),
        λ p. times_in s (hands c l) (omega (arith, in_times s l.free p.0, p.1, h.moved, h.before, h.after)),
      )

  -- A slot is taken back by a call exactly if it was bound before it and is free after it.
  pub given_exactly : In s (gives c l) ↔ (BoundIn s l × In s (calls c l).1.free)
  given_exactly = go counted counted.either
    where
      go : Counted → (times s (hands c l) ≡ 0) ⊎ (times s (gives c l) ≡ 0) → In s (gives c l) ↔ (BoundIn s l × In s (calls c l).1.free)
      go h (inl z) = (
        λ i.
            let n = in_times s (gives c l) i in
            (omega (arith, h.moved, h.before, h.after), times_in s (calls c l).1.free (omega (arith, h.moved))),
        λ p. times_in s (gives c l) (omega (arith, in_times s (calls c l).1.free p.1, p.0, h.moved, h.before, h.after)),
      )
      go h (inr z) = (
        λ i. absurd (omega (arith, in_times s (gives c l) i)),
        λ p. absurd (omega (arith, in_times s (calls c l).1.free p.1, p.0, h.moved, h.before, h.after)),
      )

-- A freed slot rests longest

-- two lists that are one up to the first s are the same up to there
until_same : (s : ℕ) (us vs xs ys : List ℕ) → Without s us → Without s vs → us ++ s ∷ xs ≡ vs ++ s ∷ ys → us ≡ vs
until_same s [] [] xs ys f g e = refl
until_same s [] (v ∷ vs) xs ys f g e = absurd (g.0 (cc))
until_same s (u ∷ us) [] xs ys f g e = absurd (f.0 (cc))
until_same s (u ∷ us) (v ∷ vs) xs ys f g e =
    let p : u ≡ v = cc in
    let r = until_same s us vs xs ys f.1 g.1 (cc) in
    λ i. p i ∷ r i

-- A free slot is handed out once all slots ahead of it have been, and they are handed out in their order.
pub ahead_first : (l : Ledger) (ahead behind : List ℕ) (s : ℕ) → l.free ≡ ahead ++ s ∷ behind → Without s ahead →
    (cs : List BucketCall) → NeverClears cs → (until after : List ℕ) → hands_all l cs ≡ until ++ s ∷ after → Without s until → until ≡ ahead
ahead_first l ahead behind s e f cs d until after h g =
    until_same s until ahead (after ++ (after_calls l cs).free) (behind ++ gives_all l cs) g f
    (sym (append_assoc until (s ∷ after) (after_calls l cs).free)
    ∙ ap (λ (r : List ℕ). r ++ (after_calls l cs).free) (sym h)
    ∙ one_queue_all cs d l
    ∙ ap (λ (r : List ℕ). r ++ gives_all l cs) e
    ∙ append_assoc ahead (s ∷ behind) (gives_all l cs))

-- a slot that is taken back stands behind all that are free then
given_last : (l : Ledger) (c : BucketCall) → c ≢ Clear → (others later : List ℕ) (s : ℕ) → gives c l ≡ others ++ s ∷ later →
    ((calls c l).1.free ≡ (l.free ++ others) ++ s ∷ later) × Fits c
given_last l c d others later s e = go (one_way c l)
  where
    go : (gives c l ≡ []) ⊎ ((hands c l ≡ []) × Fits c) → ((calls c l).1.free ≡ (l.free ++ others) ++ s ∷ later) × Fits c
    go (inl z) = absurd (omega (arith, ap length (sym z ∙ e), length-append others (s ∷ later)))
    go (inr z) = (
      ap (λ (r : List ℕ). r ++ (calls c l).1.free) (sym z.0) ∙ one_queue c d l ∙ ap (λ (r : List ℕ). l.free ++ r) e
          ∙ sym (append_assoc l.free others (s ∷ later)),
      z.1,
    )

pub rests_longest : RestsLongest
rests_longest l w c d others later s e cs never until after h g =
    let q = given_last l c d others later s e in
    let m = (calls c l).1 in
    let count = (calls_formed c q.1 l w).slots s in
    let split = sum_append (λ x. one x s) (l.free ++ others) (s ∷ later) in
    let fresh = times_without s (l.free ++ others) (omega (arith, ap (times s) q.0, one_same s s refl, below_le s m.capacity)) in
    ahead_first m (l.free ++ others) later s q.0 fresh cs never until after h g

-- Of three slots the first is freed and rests: the next key gets the second.
pub second_slot_next : hands_all (new 3) (Insert 1 ∷ Remove 1 ∷ Insert 2 ∷ []) ≡ 0 ∷ 1 ∷ []
unfolding traffic calls insert remove
second_slot_next = refl
