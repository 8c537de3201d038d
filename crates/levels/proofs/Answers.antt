-- What the tests of the calls say of the levels.
use mathlib.Core.Path.{◌≡◌, refl, sym, ap, ◌∙◌, subst}
use mathlib.Core.Bool.{Bool, true, false, cond}
use mathlib.Core.Logic.{◌≢◌}
use mathlib.Core.List.{List, [], ◌∷◌, ◌++◌}
use Prim.Native.Nat.{ℕ, ◌<◌, ◌≤◌}
use native.Mathlib.Omega.{arith}
use lib.ListN.{length, get_or}
use lib.Dec.{eqb}
use Rattle.std.specs.Prelude.{Some, None}
use Rattle.numbers.specs.declared.Slot.{Slot}
use Rattle.numbers.specs.Marks.{NONE}
use Rattle.lists.proofs.Tests.{by_lt, if_same, if_other}
use Rattle.lists.specs.Lists.{All, final}
use Rattle.lists.proofs.Members.{all_map}
use Rattle.links.specs.Linked.{Ring, linked}
use Rattle.links.specs.declared.Ends.{Ends}
use Rattle.links.proofs.Functions.{look_end}
use Rattle.links.proofs.Lists.{ring_tail}
use Rattle.bucket_table.specs.declared.Buckets.{Buckets}
use Rattle.bucket_table.specs.Records.{nums, frequency, higher, head, tail, up, InTable, Spot, RecordsHold, RowsRise, empty, count, EndsAt}
use Rattle.bucket_table.specs.Calls.{HasLevel, PlacesRecord}
use Rattle.bucket_table.proofs.Rows.{rising_around, rising_above, at_spot, above_spot, above_none, above_row, row_some}
use Rattle.levels.specs.Levels.{Level, first, lowest, lowest_frequency, head_of, slot_list}
use Rattle.levels.specs.Held as held
use Rattle.levels.specs.Held.{Tabs, tabs, Line, rows, view, Lines, Held}
use Rattle.levels.specs.Calls.{SoundWith, Lowest, LowestFrequency, Heads, LevelEnds, Counts}
use Rattle.levels.proofs.Lines.{rows_append, view_append, all_view, rows_all, all_rows, lines_room, records_mid, line_in, number_in, written, final_slot}

-- ---- the ends of a line

module _ (t : Tabs) (s : Buckets) (us : List Line) (l : Line) (vs : List Line) (h : Lines t s (us ++ l ∷ vs)) where
  pub head_is : head t.buckets l.row.num ≡ first l.slots
  head_is = (written t s us l vs h).head_is ∙ go l.slots (line_in t s us l vs h).ring
    where
      go : (xs : List ℕ) → Ring (linked t.prevs t.nexts l.row.ends) xs → l.row.ends.head ≡ first xs
      go [] r = sym (look_end (λ k. get_or t.nexts k 0) l.row.ends.head) ∙ r.links.0
      go (x ∷ xs) r = sym (look_end (λ k. get_or t.nexts k 0) l.row.ends.head) ∙ r.links.0

  pub tail_is : tail t.buckets l.row.num ≡ final NONE l.slots
  tail_is = (written t s us l vs h).tail_is ∙ ring_tail (linked t.prevs t.nexts l.row.ends) (lines_room t s (us ++ l ∷ vs) h) l.slots (line_in t s us l vs h).ring

  pub count_is : count t.buckets l.row.num ≡ length l.slots
  count_is = (written t s us l vs h).count_is ∙ (line_in t s us l vs h).ring.many

-- ---- `lowest` and `lowest_frequency`

module _ (t : Tabs) (s : Buckets) where
  bottom_none : Lines t s [] → s.bottom ≡ NONE
  bottom_none h = sym (look_end (higher t.buckets) s.bottom) ∙ above_none t.buckets t.spares s [] h.records

  bottom_row : (l : Line) (ls : List Line) → Lines t s (l ∷ ls) → s.bottom ≡ l.row.num
  bottom_row l ls h = sym (look_end (higher t.buckets) s.bottom) ∙ above_row t.buckets t.spares s [] l.row (rows ls) h.records

  -- what is read of the lowest record answers for the levels
  bottom_answer : (B : List Level → ℕ) (v : ℕ) → ((l : Line) (ls : List Line) → Lines t s (l ∷ ls) → s.bottom ≡ l.row.num → v ≡ B (view (l ∷ ls))) → s.bottom ≢ NONE → (ls : List Level) → Held t s ls → v ≡ B ls
  bottom_answer B v f ne ls h = go h.lines h.rep ∙ ap B h.seen
    where
      go : (ks : List Line) → Lines t s ks → v ≡ B (view ks)
      go [] k = absurd (ne (bottom_none k))
      go (l ∷ ks) k = f l ks k (bottom_row l ks k)

  none_answer : (B : List Level → ℕ) (v : ℕ) → v ≡ B [] → s.bottom ≡ NONE → (ls : List Level) → Held t s ls → v ≡ B ls
  none_answer B v e q ls h = go h.lines h.rep ∙ ap B h.seen
    where
      go : (ks : List Line) → Lines t s ks → v ≡ B (view ks)
      go [] k = e
      go (l ∷ ks) k = absurd (row_some t.buckets t.spares s [] l.row (rows ks) k.records (sym (bottom_row l ks k) ∙ q))

  pub bottom_in : (ls : List Level) → Held t s ls → s.bottom ≢ NONE → InTable t.buckets s.bottom
  bottom_in ls h ne = go h.lines h.rep
    where
      go : (ks : List Line) → Lines t s ks → InTable t.buckets s.bottom
      go [] k = absurd (ne (bottom_none k))
      go (l ∷ ks) k = rw (bottom_row l ks k) (number_in t s [] l ks k)

  -- the tail of the lowest level is a slot
  lowest_slot : s.bottom ≢ NONE → (ls : List Level) → Held t s ls → lowest ls ≢ NONE
  lowest_slot ne ls h = subst (λ (ks : List Level). lowest ks ≢ NONE) h.seen (go h.lines h.rep h.some)
    where
      go : (ks : List Line) → Lines t s ks → All held.Some ks → lowest (view ks) ≢ NONE
      go [] k a = absurd (ne (bottom_none k))
      go (l ∷ ks) k a = final_slot (length t.prevs) (lines_room t s (l ∷ ks) k) l.slots (line_in t s [] l ks k).ring.slots a.0

module _ (b : List ℕ) (s : Buckets) where
  pub low_none : s.bottom ≡ NONE → Lowest b s None
  low_none e = record { answer = λ f p n sp ls h. sym (none_answer (tabs f p n b sp) s lowest NONE refl e ls h) }

  pub low_tail : (x : Slot) → s.bottom ≢ NONE → x.0 ≡ tail b s.bottom → Lowest b s (Some x)
  low_tail x ne e = record {
    answer = λ f p n sp ls h. (
      bottom_answer (tabs f p n b sp) s lowest x.0 (λ l ks k q. e ∙ ap (tail b) q ∙ tail_is (tabs f p n b sp) s [] l ks k) ne ls h,
      lowest_slot (tabs f p n b sp) s ne ls h,
    );
  }

  pub low_no_frequency : s.bottom ≡ NONE → LowestFrequency b s 0
  low_no_frequency e = record { answer = λ f p n sp. none_answer (tabs f p n b sp) s lowest_frequency 0 refl e }

  pub low_frequency : (v : ℕ) → s.bottom ≢ NONE → v ≡ frequency b s.bottom → LowestFrequency b s v
  low_frequency v ne e = record {
    answer = λ f p n sp. bottom_answer (tabs f p n b sp) s lowest_frequency v (λ l ls h q. e ∙ ap (frequency b) q ∙ (written (tabs f p n b sp) s [] l ls h).freq_is) ne;
  }

  pub low_in : SoundWith b s → s.bottom ≢ NONE → InTable b s.bottom
  low_in k ne = bottom_in (tabs k.0 k.1 k.2 b k.3) s k.4.0 k.4.1 ne

-- ---- `level_ends`, `head` and `count`

pub head_slots : (g : ℕ) (ls : List Level) → head_of g ls ≡ first (slot_list g ls)
head_slots g [] = refl
head_slots g (l ∷ ls) = go (eqb l.freq g) (head_slots g ls)
  where
    go : (c : Bool) → head_of g ls ≡ first (slot_list g ls) → cond c (first l.slots) (head_of g ls) ≡ first (cond c l.slots (slot_list g ls))
    go true e = refl
    go false e = e

slots_skip : (g : ℕ) (us vs : List Level) → All (λ l. l.freq < g) us → slot_list g (us ++ vs) ≡ slot_list g vs
slots_skip g [] vs h = refl
slots_skip g (u ∷ us) vs h = let l = h.0 in if_other u.freq g u.slots (slot_list g (us ++ vs)) (omega arith) ∙ slots_skip g us vs h.1

slots_none : (g : ℕ) (vs : List Level) → All (λ l. g < l.freq) vs → slot_list g vs ≡ []
slots_none g [] h = refl
slots_none g (v ∷ vs) h = let l = h.0 in if_other v.freq g v.slots (slot_list g vs) (omega arith) ∙ slots_none g vs h.1

-- lines whose frequencies rise, parted at g
cut : (g low : ℕ) (ls : List Line) → RowsRise low (rows ls) → (us : List Line) × (vs : List Line) × (ls ≡ us ++ vs) × All (λ l. l.row.freq < g) us × All (λ l. g ≤ l.row.freq) vs
cut g low [] r = ([], [], refl, tt, tt)
cut g low (l ∷ ls) r =
    by_lt l.row.freq g
    (λ a. let q = cut g l.row.freq ls r.2 in (l ∷ q.0, q.1, ap (λ (k : List Line). l ∷ k) q.2, (a, q.3), q.4))
    (λ a.
    let above = all_rows (λ w. l.row.freq < w.freq) ls (rising_above l.row.freq (rows ls) r.2) in
    ([], l ∷ ls, refl, tt, (a, all_map (λ k. l.row.freq < k.row.freq) (λ k. g ≤ k.row.freq) (λ k b. omega arith) ls above)))

-- the lines of the levels that are held, parted at g: `at` is the record of the last one below
record PartedAt (t : Tabs) (s : Buckets) (g at : ℕ) (ls : List Level) : Type 0 where
  lower : List Line
  upper : List Line
  rep : Lines t s (lower ++ upper)
  seen : view lower ++ view upper ≡ ls
  below : All (λ l. l.freq < g) (view lower)
  from : All (λ l. g ≤ l.row.freq) upper
  place : at ≡ final NONE (nums (rows lower))

part : (t : Tabs) (s : Buckets) (g at : ℕ) → PlacesRecord t.buckets s g at → (ls : List Level) → Held t s ls → PartedAt t s g at ls
part t s g at pl ls h =
    let q = cut g 0 h.lines h.rep.records.rising in
    let rep = subst (Lines t s) q.2 h.rep in
    record {
      lower = q.0;
      upper = q.1;
      rep = rep;
      seen = sym (view_append q.0 q.1) ∙ ap view (sym q.2) ∙ h.seen;
      below = all_view (λ l. l.freq < g) q.0 (view q.0) refl q.3;
      from = q.4;
      place =
          pl.place t.spares (rows q.0) (rows q.1) (rw (rows_append q.0 q.1) at rep.records)
          (rows_all (λ w. w.freq < g) q.0 q.3) (rows_all (λ w. g ≤ w.freq) q.1 q.4);
    }

module _ (b : List ℕ) (s : Buckets) (g at n : ℕ) (pl : PlacesRecord b s g at) (en : n ≡ up b s at) where
  pub head_spots : SoundWith b s → Spot b at × Spot b n
  head_spots k =
      let t = tabs k.0 k.1 k.2 b k.3 in
      let q = part t s g at pl k.4.0 k.4.1 in
      let h : RecordsHold b k.3 s (rows q.lower ++ rows q.upper) = rw (rows_append q.lower q.upper) at q.rep.records in
      (rw q.place (at_spot b k.3 s (rows q.lower) (rows q.upper) h), rw (en, q.place) (above_spot b k.3 s (rows q.lower) (rows q.upper) h))

  -- what is said of the slots of level g: the first line from g on, if there is one, is that of record n
  slots_by : (t : Tabs) → t.buckets ≡ b → (P : List ℕ → Type 0) → (n ≡ NONE → P [])
      → ((us : List Line) (l : Line) (vs : List Line) → Lines t s (us ++ l ∷ vs) → n ≡ l.row.num → g ≤ l.row.freq → P (slot_list g (view (l ∷ vs))))
      → (ls : List Level) → Held t s ls → P (slot_list g ls)
  slots_by t eb P none some ls h =
      let q = part t s g at (subst (λ (c : List ℕ). PlacesRecord c s g at) (sym eb) pl) ls h in
      let en' : n ≡ up t.buckets s (final NONE (nums (rows q.lower))) = en ∙ ap (λ (c : List ℕ). up c s at) (sym eb) ∙ ap (up t.buckets s) q.place in
      subst P (sym (slots_skip g (view q.lower) (view q.upper) q.below) ∙ ap (slot_list g) q.seen)
      (go q.upper q.lower q.rep q.from en')
    where
      go : (vs us : List Line) → Lines t s (us ++ vs) → All (λ l. g ≤ l.row.freq) vs → n ≡ up t.buckets s (final NONE (nums (rows us))) → P (slot_list g (view vs))
      go [] us k a e = none (e ∙ above_none t.buckets t.spares s (rows us) (rw (rows_append us []) at k.records))
      go (l ∷ vs) us k a e = some us l vs k (e ∙ above_row t.buckets t.spares s (rows us) l.row (rows vs) (records_mid t s us l vs k)) a.0

  pub ends_there : HasLevel b n g → (e : Ends) → EndsAt b n e → LevelEnds b s g e
  ends_there lv e read = record {
    answer = λ f p n' sp.
        let t = tabs f p n' b sp in
        slots_by t refl (λ zs. (e.head ≡ first zs) × (e.count ≡ length zs)) (λ q. absurd (lv.0 q))
        (λ us l vs h en le.
        let w = (written t s us l vs h).freq_is in
        rw (if_same l.row.freq g l.slots (slot_list g (view vs)) (sym w ∙ ap (frequency b) (sym en) ∙ lv.1))
        (read.0 ∙ ap (head b) en ∙ head_is t s us l vs h, read.2 ∙ ap (count b) en ∙ count_is t s us l vs h));
  }

  pub ends_none : (HasLevel b n g → ⊥) → LevelEnds b s g empty
  ends_none lv = record {
    answer = λ f p n' sp.
        let t = tabs f p n' b sp in
        slots_by t refl (λ zs. (NONE ≡ first zs) × (0 ≡ length zs)) (λ q. (refl, refl))
        (λ us l vs h e le.
        let w = (written t s us l vs h).freq_is in
        let hs = records_mid t s us l vs h in
        let ne : l.row.freq ≢ g = λ q. lv ((λ z. row_some b sp s (rows us) l.row (rows vs) hs (sym e ∙ z)), ap (frequency b) e ∙ w ∙ q) in
        let above = (rising_around 0 (rows us) l.row (rows vs) hs.rising).3 in
        let rest = all_map (λ v. l.row.freq < v.freq) (λ v. g < v.freq) (λ v q. omega arith) (rows vs) above in
        let z = slots_none g (view (l ∷ vs)) (omega arith, all_view (λ k. g < k.freq) vs (view vs) refl (all_rows (λ v. g < v.freq) vs rest)) in
        (ap first (sym z), ap length (sym z)));
  }

module _ (b : List ℕ) (s : Buckets) (g : ℕ) (e : Ends) (l : LevelEnds b s g e) where
  head_read : (f p n sp : List ℕ) (ls : List Level) → Held (tabs f p n b sp) s ls → e.head ≡ head_of g ls
  head_read f p n sp ls h = (l.answer f p n sp ls h).0 ∙ sym (head_slots g ls)

  pub head_none : e.head ≡ NONE → Heads b s g None
  head_none q = record { answer = λ f p n sp ls h. sym (head_read f p n sp ls h) ∙ q }

  pub head_some : (x : Slot) → x.0 ≡ e.head → e.head ≢ NONE → Heads b s g (Some x)
  head_some x ex ne = record { answer = λ f p n sp ls h. let r = head_read f p n sp ls h in (ex ∙ r, λ q. ne (r ∙ q)) }

pub counts : (b : List ℕ) (s : Buckets) (g : ℕ) (e : Ends) → LevelEnds b s g e → Counts b s g e.count
counts b s g e l = record { answer = λ f p n sp ls h. (l.answer f p n sp ls h).1 }
