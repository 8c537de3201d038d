-- What the lines that the tables hold say, and which of them stay when one of them changes. What carries it: a slot knows its record, so the
-- slots of two lines differ, and a store at a slot of one line is none at a slot of another.
use mathlib.Core.Path.{◌≡◌, refl, sym, ap, ◌∙◌, subst}
use mathlib.Core.Logic.{◌≢◌}
use mathlib.Core.List.{List, [], ◌∷◌, ◌++◌, map-append}
use Prim.Native.Nat.{ℕ, ◌<◌, ◌≤◌}
use native.Mathlib.Omega.{arith}
use lib.ListN.{length, get_or, length-append}
use Rattle.numbers.specs.Marks.{NONE}
use Rattle.lists.specs.Lists.{All, Without, Distinct, final}
use Rattle.lists.proofs.Members.{all_map, all_both, all_mid, all_put, all_append, all_left, all_right, distinct_append, final_in}
use Rattle.lists.proofs.Maps.{images_all, all_images, length_images, map_cons, map_parts}
use Rattle.lists.proofs.Pigeonhole.{distinct_few}
use Rattle.links.specs.Linked.{Kept, linked}
use Rattle.links.specs.declared.Ends.{Ends}
use Rattle.links.proofs.Lists.{ring_distinct, ring_frame}
use Rattle.bucket_table.specs.declared.Buckets.{Buckets}
use Rattle.bucket_table.specs.Records.{Row, row, nums, owner, InTable, Written, RecordsHold}
use Rattle.bucket_table.proofs.Rows.{rows_others, row_in, row_written, nums_distinct}
use Rattle.levels.specs.Levels.{Level, level, members, Nowhere}
use Rattle.levels.specs.Held.{Tabs, Line, line, rows, view, Missing, LineHeld, Free, Even, Lines, Some, Held}

-- the last of some slots is no mark
pub final_slot : (n : ℕ) → n ≤ NONE → (xs : List ℕ) → All (λ i. i < n) xs → 0 < length xs → final NONE xs ≢ NONE
final_slot n room [] a l q = omega arith
final_slot n room (x ∷ xs) a l q = let k = final_in (λ i. i < n) x xs a.0 a.1 in omega arith

-- ---- lists of lines

pub rows_append : (us vs : List Line) → rows (us ++ vs) ≡ rows us ++ rows vs
rows_append us vs = map-append (λ l. l.row) us vs

pub view_append : (us vs : List Line) → view (us ++ vs) ≡ view us ++ view vs
view_append us vs = map-append (λ l. level l.row.freq l.slots) us vs

-- what is said of levels, of lines and of rows
pub view_all : (P : Level → Type 0) (ls : List Line) (ks : List Level) → view ls ≡ ks → All P ks → All (λ l. P (level l.row.freq l.slots)) ls
view_all P ls ks e h = images_all (λ l. level l.row.freq l.slots) P ls (subst (All P) (sym e) h)

pub all_view : (P : Level → Type 0) (ls : List Line) (ks : List Level) → view ls ≡ ks → All (λ l. P (level l.row.freq l.slots)) ls → All P ks
all_view P ls ks e h = subst (All P) e (all_images (λ l. level l.row.freq l.slots) P ls h)

pub rows_all : (P : Row → Type 0) (ls : List Line) → All (λ l. P l.row) ls → All P (rows ls)
rows_all P ls h = all_images (λ l. l.row) P ls h

pub all_rows : (P : Row → Type 0) (ls : List Line) → All P (rows ls) → All (λ l. P l.row) ls
all_rows P ls h = images_all (λ l. l.row) P ls h

-- ---- one line among others

-- the tables hold the line
abbrev pub LineIn : Tabs → Line → Type 0
LineIn t = LineHeld t.freqs t.prevs t.nexts t.buckets

module _ (t : Tabs) (s : Buckets) where
  module _ (ls : List Line) (h : Lines t s ls) where
    pub lines_room : length t.prevs ≤ NONE
    lines_room = let a = h.even.limit in let b = h.even.prevs_size in omega arith

    pub slot_in : (x : ℕ) → x < length t.freqs → InTable t.buckets x
    slot_in x l = let a = h.records.size in let b = h.spares_size in omega arith

  module _ (us : List Line) (l : Line) (vs : List Line) (h : Lines t s (us ++ l ∷ vs)) where
    pub records_mid : RecordsHold t.buckets t.spares s (rows us ++ l.row ∷ rows vs)
    records_mid = rw (rows_append us (l ∷ vs)) at h.records

    pub line_in : LineIn t l
    line_in = (all_mid (LineIn t) us l vs h.each).0

    pub lines_in : All (LineIn t) (us ++ vs)
    lines_in = (all_mid (LineIn t) us l vs h.each).1

    pub number_in : InTable t.buckets l.row.num
    number_in = (row_in t.buckets t.spares s (rows us) l.row (rows vs) records_mid).1

    pub written : Written t.buckets l.row
    written = row_written t.buckets t.spares s (rows us) l.row (rows vs) records_mid

    -- no other line has this record
    pub lines_others : All (λ v. v.row.num ≢ l.row.num) (us ++ vs)
    lines_others =
        all_rows (λ w. w.num ≢ l.row.num) (us ++ vs)
        (rw (rows_append us vs) (rows_others t.buckets t.spares s (rows us) l.row (rows vs) records_mid))

    -- a slot with this record is in no other line
    pub only_here : (x : ℕ) → owner t.buckets x ≡ l.row.num → Missing x (us ++ vs)
    only_here x e =
        all_both (λ v. v.row.num ≢ l.row.num) (LineIn t) (λ v. Without x v.slots)
        (λ v ne m. all_map (λ y. (get_or t.freqs y 0 ≡ v.row.freq) × (owner t.buckets y ≡ v.row.num)) (λ y. y ≢ x) (λ y o q. ne (sym o.1 ∙ ap (owner t.buckets) q ∙ e)) v.slots m.own)
        (us ++ vs) lines_others lines_in

-- ---- a line in the levels

-- the line of a level, which has record r, and those below and above
pub record Split (t : Tabs) (s : Buckets) (r : ℕ) (us : List Level) (f : ℕ) (zs : List ℕ) (vs : List Level) : Type 0 where
  pub lower : List Line
  pub ends : Ends
  pub upper : List Line
  pub rep : Lines t s (lower ++ line (row r f ends) zs ∷ upper)
  pub some : All Some (lower ++ upper)
  pub seen_lower : view lower ≡ us
  pub seen_upper : view upper ≡ vs

pub split_held : (t : Tabs) (s : Buckets) (us : List Level) (f : ℕ) (zs : List ℕ) (vs : List Level) → Held t s (us ++ level f zs ∷ vs) → (r : ℕ) × Split t s r us f zs vs
split_held t s us f zs vs h =
    let p = map_parts (λ (l : Line). level l.row.freq l.slots) h.lines us (level f zs ∷ vs) h.seen in
    let q = map_cons (λ (l : Line). level l.row.freq l.slots) p.1 (level f zs) vs p.4 in
    let l : Line = q.0 in
    let ef : l.row.freq ≡ f = ap (λ (k : Level). k.freq) q.3 in
    let ez : l.slots ≡ zs = ap (λ (k : Level). k.slots) q.3 in
    let el : l ≡ line (row l.row.num f l.row.ends) zs = λ i. line (row l.row.num (ef i) l.row.ends) (ez i) in
    let e : h.lines ≡ p.0 ++ line (row l.row.num f l.row.ends) zs ∷ q.1 = p.2 ∙ ap (λ (k : List Line). p.0 ++ k) q.2 ∙ ap (λ (k : Line). p.0 ++ k ∷ q.1) el in (
      l.row.num,
      record {
        lower = p.0;
        ends = l.row.ends;
        upper = q.1;
        rep = subst (Lines t s) e h.rep;
        some = (all_mid Some p.0 (line (row l.row.num f l.row.ends) zs) q.1 (subst (All Some) e h.some)).1;
        seen_lower = p.3;
        seen_upper = q.4;
      },
    )

module _ (t : Tabs) (s : Buckets) (us : List Level) (f : ℕ) (xs : List ℕ) (x : ℕ) (ys : List ℕ) (vs : List Level) where
  -- what the line says of a member
  pub member_own : (r : ℕ) → Split t s r us f (xs ++ x ∷ ys) vs → (x < length t.freqs) × (get_or t.freqs x 0 ≡ f) × (owner t.buckets x ≡ r)
  member_own r k =
      let m = line_in t s k.lower (line (row r f k.ends) (xs ++ x ∷ ys)) k.upper k.rep in
      let l = (all_mid (λ i. i < length t.prevs) xs x ys m.ring.slots).0 in
      let z = k.rep.even.prevs_size in
      let o = (all_mid (λ y. (get_or t.freqs y 0 ≡ f) × (owner t.buckets y ≡ r)) xs x ys m.own).0 in
      (omega arith, o.0, o.1)

  -- so its line is that of the record that is read for it
  pub split_at : (r : ℕ) → r ≡ owner t.buckets x → Held t s (us ++ level f (xs ++ x ∷ ys) ∷ vs) → Split t s r us f (xs ++ x ∷ ys) vs
  split_at r e h =
      let k = split_held t s us f (xs ++ x ∷ ys) vs h in
      subst (λ (i : ℕ). Split t s i us f (xs ++ x ∷ ys) vs) (sym (e ∙ (member_own k.0 k.1).2)) k.1

-- ---- the lines that stay

-- slot k says the same in both
pub record Alike (t t' : Tabs) (k : ℕ) : Type 0 where
  pub freq_same : get_or t'.freqs k 0 ≡ get_or t.freqs k 0
  pub prev_same : get_or t'.prevs k 0 ≡ get_or t.prevs k 0
  pub next_same : get_or t'.nexts k 0 ≡ get_or t.nexts k 0
  pub own_same : owner t'.buckets k ≡ owner t.buckets k

pub record Resized (t t' : Tabs) : Type 0 where
  pub freqs_size : length t'.freqs ≡ length t.freqs
  pub prevs_size : length t'.prevs ≡ length t.prevs
  pub nexts_size : length t'.nexts ≡ length t.nexts

pub even_still : (t t' : Tabs) → Resized t t' → Even t.freqs t.prevs t.nexts → Even t'.freqs t'.prevs t'.nexts
even_still t t' z e =
    let a = z.freqs_size in let b = z.prevs_size in let c = z.nexts_size in let d = e.limit in let g = e.prevs_size in let h = e.nexts_size in
    record { limit = omega arith; prevs_size = omega arith; nexts_size = omega arith }

pub line_still : (t t' : Tabs) → length t.prevs ≤ NONE → length t'.prevs ≡ length t.prevs → (l : Line) → All (Alike t t') l.slots → LineIn t l → LineIn t' l
line_still t t' room e l a h = record {
  ring =
      ring_frame (linked t.prevs t.nexts l.row.ends) t'.prevs t'.nexts l.slots room e h.ring
      (all_map (Alike t t') (Kept (linked t.prevs t.nexts l.row.ends) (linked t'.prevs t'.nexts l.row.ends)) (λ k g. (g.prev_same, g.next_same)) l.slots a);
  own =
      all_both (Alike t t') (λ x. (get_or t.freqs x 0 ≡ l.row.freq) × (owner t.buckets x ≡ l.row.num)) (λ x. (get_or t'.freqs x 0 ≡ l.row.freq) × (owner t'.buckets x ≡ l.row.num))
      (λ x g o. (g.freq_same ∙ o.0, g.own_same ∙ o.1)) l.slots a h.own;
}

-- One line, with the slots that it had and perhaps one more, x, is what a call changes.
module _ (t t' : Tabs) (s : Buckets) (us : List Line) (l : Line) (vs : List Line) (h : Lines t s (us ++ l ∷ vs)) (x : ℕ) (away : Missing x (us ++ vs)) (z : Resized t t')
    (alike : (k : ℕ) → k < length t.freqs → Without k l.slots → k ≢ x → Alike t t' k) where
  -- a slot of another line
  alike_there : (v : Line) → v.row.num ≢ l.row.num → Without x v.slots → LineIn t v → All (Alike t t') v.slots
  alike_there v ne w m =
      all_both (λ y. y < length t.prevs) (λ y. (y ≢ x) × (get_or t.freqs y 0 ≡ v.row.freq) × (owner t.buckets y ≡ v.row.num)) (Alike t t')
      (λ y i o. let e = h.even.prevs_size in alike y (omega arith) (strange y (λ q. ne (sym o.2 ∙ q))) o.0)
      v.slots m.ring.slots
      (all_both (λ y. y ≢ x) (λ y. (get_or t.freqs y 0 ≡ v.row.freq) × (owner t.buckets y ≡ v.row.num)) (λ y. (y ≢ x) × (get_or t.freqs y 0 ≡ v.row.freq) × (owner t.buckets y ≡ v.row.num))
      (λ y d o. (d, o.0, o.1)) v.slots w m.own)
    where
      strange : (y : ℕ) → owner t.buckets y ≢ l.row.num → Without y l.slots
      strange y d =
          all_map (λ k. (get_or t.freqs k 0 ≡ l.row.freq) × (owner t.buckets k ≡ l.row.num)) (λ k. k ≢ y) (λ k o q. d (ap (owner t.buckets) (sym q) ∙ o.1))
          l.slots (line_in t s us l vs h).own

  pub others_still : All (LineIn t') (us ++ vs)
  others_still =
      all_both (λ v. (v.row.num ≢ l.row.num) × Without x v.slots) (LineIn t) (LineIn t')
      (λ v a m. line_still t t' (lines_room t s (us ++ l ∷ vs) h) z.prevs_size v (alike_there v a.0 a.1 m) m) (us ++ vs)
      (all_both (λ v. v.row.num ≢ l.row.num) (λ v. Without x v.slots) (λ v. (v.row.num ≢ l.row.num) × Without x v.slots) (λ v a b. (a, b)) (us ++ vs) (lines_others t s us l vs h) away)
      (lines_in t s us l vs h)

  pub free_still : (k : ℕ) → k < length t'.freqs → Missing k (us ++ vs) → Without k l.slots → k ≢ x → Free t'.freqs t'.prevs t'.nexts k
  free_still k i m w ne =
      let e = z.freqs_size in
      let a = alike k (omega arith) w ne in
      let g = h.free k (omega arith) (all_put (λ v. Without k v.slots) us l vs w m) in
      record { next_own = a.next_same ∙ g.next_own; prev_own = a.prev_same ∙ g.prev_own; freq_zero = a.freq_same ∙ g.freq_zero }

-- ---- all slots

module _ (t : Tabs) where
  -- the slots of lines with other records
  apart_rows : (l : Line) → LineIn t l → (ls : List Line) → Without l.row.num (nums (rows ls)) → All (LineIn t) ls → All (λ y. Without y l.slots) (members (view ls))
  apart_rows l m [] w h = tt
  apart_rows l m (k ∷ ls) w h =
      all_append (λ y. Without y l.slots) k.slots (members (view ls))
      (all_map (λ y. (get_or t.freqs y 0 ≡ k.row.freq) × (owner t.buckets y ≡ k.row.num)) (λ y. Without y l.slots)
      (λ y o. all_map (λ x. (get_or t.freqs x 0 ≡ l.row.freq) × (owner t.buckets x ≡ l.row.num)) (λ x. x ≢ y) (λ x i q. w.0 (sym o.1 ∙ ap (owner t.buckets) (sym q) ∙ i.1)) l.slots m.own)
      k.slots h.0.own)
      (apart_rows l m ls w.1 h.1)

  pub slots_distinct : length t.prevs ≤ NONE → (ls : List Line) → Distinct (nums (rows ls)) → All (LineIn t) ls → Distinct (members (view ls))
  slots_distinct room [] d h = tt
  slots_distinct room (l ∷ ls) d h =
      distinct_append l.slots (members (view ls)) (ring_distinct (linked t.prevs t.nexts l.row.ends) room l.slots h.0.ring)
      (slots_distinct room ls d.1 h.1) (apart_rows l h.0 ls d.0 h.1)

  pub slots_below : (ls : List Line) → All (LineIn t) ls → All (λ x. x < length t.prevs) (members (view ls))
  slots_below [] h = tt
  slots_below (l ∷ ls) h = all_append (λ x. x < length t.prevs) l.slots (members (view ls)) h.0.ring.slots (slots_below ls h.1)

many_slots : (ls : List Line) → All Some ls → length ls ≤ length (members (view ls))
many_slots [] h = omega arith
many_slots (l ∷ ls) h = let a = h.0 in omega (arith, many_slots ls h.1, length-append l.slots (members (view ls)))

-- being in no level, and being none of the members
pub nowhere_members : (x : ℕ) (ls : List Level) → Nowhere x ls → Without x (members ls)
nowhere_members x [] h = tt
nowhere_members x (l ∷ ls) h = all_append (λ y. y ≢ x) l.slots (members ls) h.0 (nowhere_members x ls h.1)

pub members_nowhere : (x : ℕ) (ls : List Level) → Without x (members ls) → Nowhere x ls
members_nowhere x [] h = tt
members_nowhere x (l ∷ ls) h = (all_left (λ y. y ≢ x) l.slots (members ls) h, members_nowhere x ls (all_right (λ y. y ≢ x) l.slots (members ls) h))

pub missing_members : (x : ℕ) (ls : List Line) → Missing x ls → Without x (members (view ls))
missing_members x ls h = nowhere_members x (view ls) (all_view (λ l. Without x l.slots) ls (view ls) refl h)

pub members_missing : (x : ℕ) (ls : List Line) → Without x (members (view ls)) → Missing x ls
members_missing x ls h = view_all (λ l. Without x l.slots) ls (view ls) refl (members_nowhere x (view ls) h)

module _ (t : Tabs) (s : Buckets) (ls : List Line) (h : Lines t s ls) where
  pub lines_distinct : Distinct (members (view ls))
  lines_distinct = slots_distinct t (lines_room t s ls h) ls (nums_distinct t.buckets t.spares s (rows ls) h.records) h.each

  pub lines_below : All (λ x. x < length t.freqs) (members (view ls))
  lines_below = rw h.even.prevs_size at (slots_below t ls h.each)

  pub lines_few : length (members (view ls)) ≤ length t.freqs
  lines_few = distinct_few (length t.freqs) (members (view ls)) lines_distinct lines_below

  -- while a slot is in no line, there are fewer lines than slots
  pub lines_fewer : All Some ls → (x : ℕ) → x < length t.freqs → Missing x ls → length (nums (rows ls)) < length t.spares
  lines_fewer some x l w =
      let z = h.spares_size in
      omega (
        arith,
        distinct_few (length t.freqs) (x ∷ members (view ls)) (missing_members x ls w, lines_distinct) (l, lines_below),
        many_slots ls some,
        length_images (λ (w : Row). w.num) (rows ls),
        length_images (λ (k : Line). k.row) ls,
      )
