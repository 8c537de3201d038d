-- The loop ends: the slots that are left are those whose frequency is at least that of the next record, and each turn leaves fewer. What carries
-- it: a slot that is done has a lower frequency, and a free one has 0, so that counting cells counts the slots that are left.
use mathlib.Core.Path.{◌≡◌, refl, sym, ap, ◌∙◌}
use mathlib.Core.Logic.{◌≢◌}
use mathlib.Core.Bool.{Bool, true, cond}
use mathlib.Core.List.{List, [], ◌∷◌, ◌++◌}
use Prim.Native.Nat.{ℕ, ◌<◌, ◌≤◌}
use native.Mathlib.Omega.{arith}
use lib.ListN.{length, get_or}
use lib.Dec.{eqb, leb}
use borrow.Author.Tests.{le-leb, leb-true}
use Rattle.numbers.specs.Marks.{NONE}
use Rattle.lists.specs.Lists.{All, In, Without, Distinct, times}
use Rattle.lists.specs.Marks.{count}
use Rattle.lists.proofs.Tests.{by_eq, if_same, if_other}
use Rattle.lists.proofs.Members.{all_map, all_both, all_append, all_left, all_right, times_in, times_without, distinct_right}
use Rattle.lists.proofs.Pigeonhole.{marked_cover}
use Rattle.bucket_table.specs.declared.Buckets.{Buckets}
use Rattle.bucket_table.specs.Records.{frequency, tail, owner, up, InTable, Spot}
use Rattle.levels.specs.Levels.{Level, level, members, Nowhere}
use Rattle.levels.specs.Held.{Tabs, Held}
use Rattle.levels.proofs.Lines.{view_all, all_view, LineIn, members_nowhere}
use Rattle.levels.proofs.One.{held_distinct, held_below}
use Rattle.levels.proofs.Leave.{bound_fits}
use Rattle.levels.proofs.Calls.{held_order}
use Rattle.buckets_regroup.specs.Falls.{under, Falls}
use Rattle.buckets_regroup.proofs.Changes.{Lowers}
use Rattle.buckets_regroup.proofs.Falling.{falling_held, falling_bound, falling_frequency}
use Rattle.buckets_regroup.proofs.Turns.{Reached, Midway, left_none, Turn, turn, turned, reached_in, reached_spot, next_of}

-- how many cells of `freqs` have at least the frequency of record n, 0 where n is NONE
abbrev pub remaining : (freqs buckets : List ℕ) → ℕ → ℕ
remaining f b n = cond (eqb n NONE) 0 (count (λ k. leb (frequency b n) (get_or f k 0)) (length f))

-- ---- the members of the upper levels

distinct_upper : (us vs : List Level) → Distinct (members (us ++ vs)) → Distinct (members vs)
distinct_upper [] vs d = d
distinct_upper (u ∷ us) vs d = distinct_upper us vs (distinct_right u.slots (members (us ++ vs)) d)

all_upper : (P : ℕ → Type 0) (us vs : List Level) → All P (members (us ++ vs)) → All P (members vs)
all_upper P [] vs h = h
all_upper P (u ∷ us) vs h = all_upper P us vs (all_right P u.slots (members (us ++ vs)) h)

all_members : (P : ℕ → Type 0) (vs : List Level) → All (λ l. All P l.slots) vs → All P (members vs)
all_members P [] h = tt
all_members P (v ∷ vs) h = all_append P v.slots (members vs) h.0 (all_members P vs h.1)

-- the slots of a level have its frequency
abbrev Rated : List ℕ → Level → Type 0
Rated f l = All (λ x. get_or f x 0 ≡ l.freq) l.slots

held_rated : (t : Tabs) (s : Buckets) (ls : List Level) → Held t s ls → All (Rated t.freqs) ls
held_rated t s ls h =
    all_view (Rated t.freqs) h.lines ls h.seen
    (all_map (LineIn t) (λ l. Rated t.freqs (level l.row.freq l.slots))
    (λ l m.
    all_map (λ x. (get_or t.freqs x 0 ≡ l.row.freq) × (owner t.buckets x ≡ l.row.num)) (λ x. get_or t.freqs x 0 ≡ l.row.freq) (λ x o. o.0)
    l.slots m.own)
    h.lines h.rep.each)

module _ (t : Tabs) (s : Buckets) (us : List Level) (f : ℕ) (zs : List ℕ) (vs : List Level) (h : Held t s (us ++ level f zs ∷ vs)) where
  abbrev upper : List Level
  upper = level f zs ∷ vs

  abbrev high : ℕ → Bool
  high k = leb f (get_or t.freqs k 0)

  order : All (λ l. l.freq < f) us × (1 ≤ f) × All (λ l. f ≤ l.freq) upper
  order =
      let o = held_order t s us f zs vs h in
      (o.0, o.1, (omega arith, all_map (λ l. f < l.freq) (λ l. f ≤ l.freq) (λ l q. omega arith) vs o.3))

  upper_high : All (λ x. high x ≡ true) (members upper)
  upper_high =
      all_members (λ x. high x ≡ true) upper
      (all_both (λ l. f ≤ l.freq) (Rated t.freqs) (λ l. All (λ x. high x ≡ true) l.slots)
      (λ l a m. all_map (λ x. get_or t.freqs x 0 ≡ l.freq) (λ x. high x ≡ true) (λ x e. le-leb f (get_or t.freqs x 0) (omega arith)) l.slots m)
      upper order.2 (all_right (Rated t.freqs) us upper (held_rated t s (us ++ upper) h)))

  -- a slot that is not in the upper levels has less
  high_upper : (k : ℕ) → k < length t.freqs → high k ≡ true → In k (members upper)
  high_upper k l e =
      by_eq (times k (members upper)) 0
      (λ z.
      let q = leb-true f (get_or t.freqs k 0) e in
      let lower : Nowhere k us
      = all_both (λ m. m.freq < f) (Rated t.freqs) (λ m. Without k m.slots)
      (λ m a r.
      all_map (λ x. get_or t.freqs x 0 ≡ m.freq) (λ x. x ≢ k) (λ x p w. let c = ap (λ (i : ℕ). get_or t.freqs i 0) w in absurd (omega arith))
      m.slots r)
      us order.0 (all_left (Rated t.freqs) us upper (held_rated t s (us ++ upper) h)) in
      let nowhere = all_append (λ m. Without k m.slots) us upper lower (members_nowhere k upper (times_without k (members upper) z)) in
      let free = (h.rep.free k l (view_all (λ m. Without k m.slots) h.lines (us ++ upper) h.seen nowhere)).freq_zero in
      let one = order.1 in
      absurd (omega arith))
      (λ d. times_in k (members upper) (omega arith))

  upper_count : length (members upper) ≡ count high (length t.freqs)
  upper_count =
      marked_cover high (length t.freqs) (members upper) (distinct_upper us upper (held_distinct t s (us ++ upper) h))
      (all_upper (λ x. x < length t.freqs) us upper (held_below t s (us ++ upper) h)) upper_high high_upper

-- ---- the loop

pub remaining_is : (g : ℕ → ℕ) (ls : List Level) (t : Tabs) (s : Buckets) (last number : ℕ) (m : Midway g ls t s last number)
    → remaining t.freqs t.buckets number ≡ length (members m.reached.left)
remaining_is g ls t s last number m =
    by_eq number NONE
    (λ e. if_same number NONE _ _ e ∙ sym (ap (λ (vs : List Level). length (members vs)) (left_none g ls t s last number m e)))
    (λ ne.
    let x = tail t.buckets number in
    let k = turn g ls t s last number m ne x refl in
    let q = k.falling in
    if_other number NONE _ _ ne
    ∙ ap (λ (f : ℕ). count (λ i. leb f (get_or t.freqs i 0)) (length t.freqs)) (falling_frequency g t s number x last q)
    ∙ sym (upper_count t s (under q.lower []) q.freq (q.others ++ x ∷ []) q.upper (falling_held g t s number x last q))
    ∙ sym (ap (λ (vs : List Level). length (members vs)) k.is))

-- a turn
module _ (g : ℕ → ℕ) (low : Lowers g) (ls : List Level) (t : Tabs) (s : Buckets) (last number : ℕ) (m : Midway g ls t s last number)
    (ne : number ≢ NONE) (x : ℕ) (ex : x ≡ tail t.buckets number) (t' : Tabs) (s' : Buckets) (fa : Falls g t s number x last t' s') where
  abbrev k : Turn g ls t s last number x m.reached.left
  k = turn g ls t s last number m ne x ex

  tail_some : x ≢ NONE
  tail_some = let f = (bound_fits t s x (falling_bound g t s number x last k.falling)).0 in let a = f.room in let b = f.slot in omega arith

  abbrev after : (n : Reached g ls t' s' x) × (length (members n.left) < length (members m.reached.left))
  after = turned g low ls t s last number x m.reached.left k t' s' fa

  -- where the loop looks next
  pub tail_in : InTable t'.buckets x
  tail_in = reached_in g ls t' s' x tail_some after.0

  module _ (own : ℕ) (eo : own ≡ owner t'.buckets x) where
    pub own_spot : Spot t'.buckets own
    own_spot = reached_spot g ls t' s' x tail_some after.0 own eo

    -- it goes on, with fewer slots left
    module _ (number' : ℕ) (en : number' ≡ up t'.buckets s' own) where
      pub midway_on : Midway g ls t' s' x number'
      midway_on = record { reached = after.0; next = next_of g ls t' s' x tail_some after.0 own number' eo en }

      pub fewer_remain : remaining t'.freqs t'.buckets number' < remaining t.freqs t.buckets number
      unfolding midway_on
      fewer_remain =
          let a = after.1 in
          omega (arith, remaining_is g ls t s last number m, remaining_is g ls t' s' x number' midway_on)
