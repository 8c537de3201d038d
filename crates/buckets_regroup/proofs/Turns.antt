-- The loop: some levels are done, the others are left, and the ones folded onto the others regrouped are all levels regrouped. A turn takes the
-- tail of the lowest level that is left, or, where the frequency stays, the whole level.
use mathlib.Core.Path.{◌≡◌, refl, sym, ap, ◌∙◌, subst}
use mathlib.Core.Logic.{◌≢◌, inl}
use mathlib.Core.List.{List, [], ◌∷◌, ◌++◌}
use Prim.Native.Nat.{ℕ, ◌+◌, ◌<◌, ◌≤◌}
use native.Mathlib.Omega.{arith}
use lib.ListN.{length, get_or, length-append}
use Rattle.numbers.specs.Marks.{NONE}
use Rattle.lists.specs.Lists.{All, final}
use Rattle.lists.proofs.Tests.{by_lt, if_eq}
use Rattle.lists.proofs.Members.{all_any, all_map, all_mid, in_mid}
use Rattle.links.proofs.Functions.{look_end, look_at}
use Rattle.bucket_table.specs.declared.Buckets.{Buckets}
use Rattle.bucket_table.specs.Records.{nums, tail, owner, up, InTable, Spot, RecordsHold}
use Rattle.bucket_table.proofs.Places.{up_none}
use Rattle.bucket_table.proofs.Rows.{above_none, above_row, row_some}
use Rattle.levels.specs.Levels.{Level, level, members, keep, join}
use Rattle.levels.specs.Held.{Tabs, Line, rows, view, Lines, Some, Held, Parted}
use Rattle.levels.specs.Calls.{SlotBound}
use Rattle.levels.proofs.Lines.{rows_append, records_mid, line_in}
use Rattle.levels.proofs.One.{held_rising}
use Rattle.levels.proofs.Leave.{bound_slot_in}
use Rattle.levels.proofs.Calls.{bound_spots}
use Rattle.levels.proofs.Answers.{tail_is}
use Rattle.buckets_regroup.specs.Regroup.{settle, regroup}
use Rattle.buckets_regroup.specs.Falls.{under, height, Top, Falling, Falls}
use Rattle.buckets_regroup.proofs.Changes.{Lowers}
use Rattle.buckets_regroup.proofs.Settled.{onto, onto_falls, onto_rising}
use Rattle.buckets_regroup.proofs.Tops.{record_of, top_bound, parted_top}
use Rattle.buckets_regroup.proofs.Falling.{keep_above, falling_record, falling_order}

-- some levels are finished, and `last` is a slot of the highest of them; the levels ls were there at first
pub record Reached (g : ℕ → ℕ) (ls : List Level) (t : Tabs) (s : Buckets) (last : ℕ) : Type 0 where
  pub finished : List Level
  pub left : List Level
  pub held : Held t s (under finished left)
  pub top : Top finished last
  pub low : All (λ l. height finished ≤ g l.freq) left
  pub same : onto finished (regroup g left) ≡ regroup g ls

-- and `number` is the lowest record that is left
pub record Midway (g : ℕ → ℕ) (ls : List Level) (t : Tabs) (s : Buckets) (last number : ℕ) : Type 0 where
  pub reached : Reached g ls t s last
  pub next : number ≡ up t.buckets s (record_of t.buckets last)

pub midway_start : (g : ℕ → ℕ) (t : Tabs) (s : Buckets) (ls : List Level) → Held t s ls → Midway g ls t s NONE s.bottom
midway_start g t s ls h = record {
  reached = record { finished = []; left = ls; held = h; top = refl; low = all_any (λ l. 0 ≤ g l.freq) (λ l. omega arith) ls; same = refl };
  next = up_none t.buckets s (record_of t.buckets NONE) (look_end (owner t.buckets) NONE);
}

-- ---- the lowest level that is left

-- a list that is not empty, up to its last member
some_last : (xs : List ℕ) → 0 < length xs → (ys : List ℕ) × (xs ≡ ys ++ final NONE xs ∷ [])
some_last [] l = absurd (omega arith)
some_last (x ∷ xs) l = go x xs
  where
    go : (x : ℕ) (xs : List ℕ) → (ys : List ℕ) × (x ∷ xs ≡ ys ++ final x xs ∷ [])
    go x [] = ([], refl)
    go x (y ∷ ys) = let r = go y ys in (x ∷ r.0, ap (λ (zs : List ℕ). x ∷ zs) r.1)

-- its tail is x, which may fall
pub record Turn (g : ℕ → ℕ) (ls : List Level) (t : Tabs) (s : Buckets) (last number x : ℕ) (left : List Level) : Type 0 where
  pub falling : Falling g t s number x last
  pub is : left ≡ level falling.freq (falling.others ++ x ∷ []) ∷ falling.upper
  pub same : onto falling.lower (regroup g (level falling.freq (falling.others ++ x ∷ []) ∷ falling.upper)) ≡ regroup g ls

module _ (g : ℕ → ℕ) (ls : List Level) (t : Tabs) (s : Buckets) (last number : ℕ) (m : Midway g ls t s last number) where
  abbrev r : Reached g ls t s last
  r = m.reached

  parts : Parted t s (record_of t.buckets last) (under r.finished []) r.left
  parts = parted_top t s r.finished r.left last r.top r.held

  next_is : number ≡ up t.buckets s (final NONE (nums (rows parts.lower)))
  next_is = m.next ∙ ap (up t.buckets s) parts.place

  -- the lines that are left: there is none, or the first has the record `number`
  next_none : Lines t s (parts.lower ++ []) → number ≡ NONE
  next_none k = next_is ∙ above_none t.buckets t.spares s (rows parts.lower) (rw (rows_append parts.lower []) at k.records)

  module _ (u : Line) (us : List Line) (k : Lines t s (parts.lower ++ u ∷ us)) where
    here : RecordsHold t.buckets t.spares s (rows parts.lower ++ u.row ∷ rows us)
    here = records_mid t s parts.lower u us k

    next_row : number ≡ u.row.num
    next_row = next_is ∙ above_row t.buckets t.spares s (rows parts.lower) u.row (rows us) here

    next_some : number ≢ NONE
    next_some e = row_some t.buckets t.spares s (rows parts.lower) u.row (rows us) here (sym next_row ∙ e)

  -- nothing is left
  pub left_none : number ≡ NONE → r.left ≡ []
  left_none e = go parts.upper parts.rep parts.seen_upper
    where
      go : (us : List Line) → Lines t s (parts.lower ++ us) → view us ≡ r.left → r.left ≡ []
      go [] k q = sym q
      go (u ∷ us) k q = absurd (next_some u us k e)

  -- so what is finished is all of it
  pub midway_end : number ≡ NONE → Held t s (regroup g ls)
  midway_end e =
      let z = left_none e in
      let h : Held t s (under r.finished []) = subst (λ (vs : List Level). Held t s (under r.finished vs)) z r.held in
      let o : onto r.finished [] ≡ regroup g ls = ap (λ (vs : List Level). onto r.finished (regroup g vs)) (sym z) ∙ r.same in
      subst (Held t s) (sym (onto_rising 0 r.finished [] (held_rising t s (under r.finished []) h)) ∙ o) h

  -- the slots of a line have its record
  abbrev Own : Line → ℕ → Type 0
  Own u x = (get_or t.freqs x 0 ≡ u.row.freq) × (owner t.buckets x ≡ u.row.num)

  -- the next level
  pub turn : number ≢ NONE → (x : ℕ) → x ≡ tail t.buckets number → Turn g ls t s last number x r.left
  turn ne x ex = go parts.upper parts.rep parts.some parts.seen_upper
    where
      go : (us : List Line) → Lines t s (parts.lower ++ us) → All Some (parts.lower ++ us) → view us ≡ r.left → Turn g ls t s last number x r.left
      go [] k a q = absurd (ne (next_none k))
      go (u ∷ us) k a q =
          let et : x ≡ final NONE u.slots = ex ∙ ap (tail t.buckets) (next_row u us k) ∙ tail_is t s parts.lower u us k in
          let z = some_last u.slots (all_mid Some parts.lower u us a).0 in
          let ez : u.slots ≡ z.0 ++ x ∷ [] = z.1 ∙ ap (λ (i : ℕ). z.0 ++ i ∷ []) (sym et) in
          let el : r.left ≡ level u.row.freq (z.0 ++ x ∷ []) ∷ view us = sym q ∙ ap (λ (zs : List ℕ). level u.row.freq zs ∷ view us) ez in
          let own = (all_mid (Own u) z.0 x [] (subst (All (Own u)) ez (line_in t s parts.lower u us k).own)).0 in
          record {
            falling = record {
              lower = r.finished;
              freq = u.row.freq;
              others = z.0;
              upper = view us;
              held = subst (λ (vs : List Level). Held t s (under r.finished vs)) el r.held;
              number = next_row u us k ∙ sym own.1;
              top = r.top;
              low = (subst (All (λ l. height r.finished ≤ g l.freq)) el r.low).0;
            };
            is = el;
            same = ap (λ (vs : List Level). onto r.finished (regroup g vs)) (sym el) ∙ r.same;
          }

  pub midway_in : number ≢ NONE → InTable t.buckets number
  midway_in ne = let x = tail t.buckets number in falling_record g t s number x last (turn ne x refl).falling

-- ---- after a turn

keep_fewer : (f x : ℕ) (xs : List ℕ) (vs : List Level) → length (members (keep f xs vs)) + 1 ≡ length (members (level f (xs ++ x ∷ []) ∷ vs))
keep_fewer f x [] vs = omega arith
keep_fewer f x (y ∷ ys) vs =
    omega (arith, length-append (y ∷ ys) (members vs), length-append ((y ∷ ys) ++ x ∷ []) (members vs), length-append (y ∷ ys) (x ∷ []))

join_top : (x f : ℕ) (ds : List Level) → Top (join x f ds) x × (height (join x f ds) ≡ f)
join_top x f [] = (inl refl, refl)
join_top x f (d ∷ ds) = if_eq (λ (es : List Level). Top es x × (height es ≡ f)) d.freq f (λ e. (inl refl, refl)) (λ n. (inl refl, refl))

module _ (g : ℕ → ℕ) (low : Lowers g) (ls : List Level) (t : Tabs) (s : Buckets) (last number x : ℕ) (left : List Level)
    (k : Turn g ls t s last number x left) (t' : Tabs) (s' : Buckets) (fa : Falls g t s number x last t' s') where
  abbrev q : Falling g t s number x last
  q = k.falling

  abbrev f : ℕ
  f = q.freq

  order : (1 ≤ f) × All (λ l. f ≤ l.freq) q.upper
  order =
      let o = falling_order g t s number x last q in
      (o.0, all_map (λ l. f < l.freq) (λ l. f ≤ l.freq) (λ l a. omega arith) q.upper o.2)

  -- a new highest level of frequency g f is not above what is left
  still_low : (ds vs : List Level) → height ds ≡ g f → All (λ l. f ≤ l.freq) vs → All (λ l. height ds ≤ g l.freq) vs
  still_low ds vs e h = all_map (λ l. f ≤ l.freq) (λ l. height ds ≤ g l.freq) (λ l a. let b = low.up f l.freq a in omega arith) vs h

  -- the slot has come to its level, and fewer are left
  pub turned : (n : Reached g ls t' s' x) × (length (members n.left) < length (members left))
  turned =
      let many = ap (λ (vs : List Level). length (members vs)) k.is in
      by_lt (g f) f
      (λ l. (
        record {
          finished = join x (g f) q.lower;
          left = keep f q.others q.upper;
          held = fa.falls q l;
          top = (join_top x (g f) q.lower).0;
          low =
              still_low (join x (g f) q.lower) (keep f q.others q.upper) (join_top x (g f) q.lower).1
              (keep_above (λ l. f ≤ l.freq) f q.others q.upper (omega arith) order.1);
          same = onto_falls g f x q.lower q.others q.upper ∙ k.same;
        },
        omega (arith, keep_fewer f x q.others q.upper),
      ))
      (λ l.
      let a = low.less f order.0 in
      let e : g f ≡ f = omega arith in (
        record {
          finished = level f (q.others ++ x ∷ []) ∷ q.lower;
          left = q.upper;
          held = fa.stays q e;
          top = in_mid q.others x [];
          low = still_low (level f (q.others ++ x ∷ []) ∷ q.lower) q.upper (sym e) order.1;
          same = ap (λ (h : ℕ). onto q.lower (settle h (q.others ++ x ∷ []) (regroup g q.upper))) (sym e) ∙ k.same;
        },
        omega (arith, length-append (q.others ++ x ∷ []) (members q.upper), length-append q.others (x ∷ [])),
      ))

-- where the loop looks next
module _ (g : ℕ → ℕ) (ls : List Level) (t : Tabs) (s : Buckets) (x : ℕ) (ne : x ≢ NONE) (n : Reached g ls t s x) where
  reached_bound : SlotBound t s x
  reached_bound = top_bound t s n.finished n.left x n.top ne n.held

  pub reached_in : InTable t.buckets x
  reached_in = bound_slot_in t s x reached_bound

  pub reached_spot : (own : ℕ) → own ≡ owner t.buckets x → Spot t.buckets own
  reached_spot own e = (bound_spots t s x reached_bound own e).0

  pub next_of : (own number : ℕ) → own ≡ owner t.buckets x → number ≡ up t.buckets s own → number ≡ up t.buckets s (record_of t.buckets x)
  next_of own number eo en = en ∙ ap (up t.buckets s) (eo ∙ sym (look_at (owner t.buckets) NONE x ne))
