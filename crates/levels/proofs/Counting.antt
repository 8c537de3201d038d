-- The count of the slots up to a frequency. What carries it: the rows passed are the beginning of all rows that there may be, none is above the
-- frequency, and what was counted is the sum of what they say. The rows together say how many slots are bound, so that no sum passes the limit.
use mathlib.Core.Path.{◌≡◌, refl, sym, ap, ◌∙◌, subst}
use mathlib.Core.Logic.{◌≢◌, inl}
use mathlib.Core.Bool.{cond}
use mathlib.Core.List.{List, [], ◌∷◌, ◌++◌, append-nil}
use Prim.Native.Nat.{ℕ, ◌+◌, ◌<◌, ◌≤◌}
use native.Mathlib.Omega.{arith}
use lib.ListN.{length, length-append}
use lib.Dec.{leb}
use Rattle.numbers.specs.Marks.{LIMIT, NONE}
use Rattle.lists.specs.Lists.{All, sum}
use Rattle.lists.proofs.Tests.{if_at_most, if_above}
use Rattle.lists.proofs.Members.{all_map, all_append, sum_append, sum_same, sum_none}
use Rattle.lists.proofs.Maps.{sum_images}
use Rattle.links.specs.declared.Ends.{Ends}
use Rattle.bucket_table.specs.declared.Buckets.{Buckets}
use Rattle.bucket_table.specs.Records.{Row, frequency, row_of, up, InTable, Spot, EndsAt, RecordsHold, RecordsSound}
use Rattle.bucket_table.proofs.Rows.{rising_around}
use Rattle.bucket_table.proofs.Places.{Standing, standing_none, standing_end, standing_next, standing_more, next_in}
use Rattle.levels.specs.Levels.{Level, level, members, count_up_to}
use Rattle.levels.specs.Held.{Tabs, tabs, Line, rows, view}
use Rattle.levels.specs.Calls.{SoundWith, CountsUpTo}
use Rattle.levels.proofs.Lines.{LineIn, lines_few}

-- ---- rows and lines

-- what a row says of its list's length, where its frequency is at most g
abbrev up_to : ℕ → Row → ℕ
up_to g w = cond (leb w.freq g) w.ends.count 0

module _ (t : Tabs) where
  -- the rows together say how many slots the lines have
  rows_count : (ls : List Line) → All (LineIn t) ls → sum (λ (w : Row). w.ends.count) (rows ls) ≡ length (members (view ls))
  rows_count [] h = refl
  rows_count (l ∷ ls) h = let m = h.0.ring.many in let ih = rows_count ls h.1 in omega (arith, length-append l.slots (members (view ls)))

  -- and those up to g, how many lie there
  rows_up_to : (g : ℕ) (ls : List Line) → All (LineIn t) ls → sum (up_to g) (rows ls) ≡ count_up_to g (view ls)
  rows_up_to g ls h =
      sum_images (λ (l : Line). l.row) (up_to g) ls
      ∙ sum_same (λ (l : Line). up_to g l.row) (λ (l : Line). cond (leb l.row.freq g) (length l.slots) 0) ls
      (all_map (LineIn t) (λ l. up_to g l.row ≡ cond (leb l.row.freq g) (length l.slots) 0)
      (λ l m. ap (λ (n : ℕ). cond (leb l.row.freq g) n 0) m.ring.many) ls h)
      ∙ sym (sum_images (λ (l : Line). level l.row.freq l.slots) (λ (l : Level). cond (leb l.freq g) (length l.slots) 0) ls)

up_to_parts : (g : ℕ) (us vs : List Row) → All (λ w. w.freq ≤ g) us → All (λ w. g < w.freq) vs
    → sum (up_to g) (us ++ vs) ≡ sum (λ w. w.ends.count) us
up_to_parts g us vs low high =
    let a = sum_same (up_to g) (λ (w : Row). w.ends.count) us
    (all_map (λ w. w.freq ≤ g) (λ w. up_to g w ≡ w.ends.count) (λ w h. if_at_most w.freq g w.ends.count 0 h) us low) in
    let b = sum_none (up_to g) vs (all_map (λ w. g < w.freq) (λ w. up_to g w ≡ 0) (λ w h. if_above w.freq g w.ends.count 0 h) vs high) in
    omega (arith, sum_append (up_to g) us vs)

-- ---- `count_up_to`

-- where the count stands: the rows passed, and what is counted of them; record n is next
pub record Counted (b : List ℕ) (s : Buckets) (g n counted : ℕ) : Type 0 where
  pub at : ℕ
  pub passed : List Row
  pub standing : Standing b s passed at n
  pub low : All (λ w. w.freq ≤ g) passed
  pub sum_is : counted ≡ sum (λ w. w.ends.count) passed

pub counted_none : (b : List ℕ) (s : Buckets) (g n : ℕ) → s.bottom ≡ n → Counted b s g n 0
counted_none b s g n e = record { at = NONE; passed = []; standing = standing_none b s n e; low = tt; sum_is = refl }

pub some_records : (b : List ℕ) (s : Buckets) (k : SoundWith b s) → RecordsSound b k.3 s
some_records b s k = (rows k.4.1.lines, k.4.1.rep.records)

module _ (b : List ℕ) (s : Buckets) (g n counted : ℕ) (c : Counted b s g n counted) where
  module _ (ne : n ≢ NONE) where
    pub counted_in : SoundWith b s → InTable b n × Spot b n
    counted_in k = let i = next_in b s c.passed c.at n c.standing ne k.3 (some_records b s k) in (i.1, inl (i.0, i.1))

    module _ (e : Ends) (read : EndsAt b n e) where
      -- one row more is still within the limit
      pub counted_fits : SoundWith b s → counted + e.count ≤ LIMIT
      counted_fits k =
          let t = tabs k.0 k.1 k.2 b k.3 in
          let h = k.4.1 in
          let q = standing_next b s c.passed c.at n c.standing ne k.3 (rows h.lines) h.rep.records in
          let all = ap (sum (λ (w : Row). w.ends.count)) (sym q.1) ∙ rows_count t h.lines h.rep.each in
          let few = lines_few t s h.lines h.rep in
          let limit = h.rep.even.limit in let a = c.sum_is in let m = read.2 in
          omega (arith, sum_append (λ (w : Row). w.ends.count) c.passed (row_of b n ∷ q.0))

      pub counted_more : (x m : ℕ) → x ≡ frequency b n → x ≤ g → m ≡ up b s n → Counted b s g m (counted + e.count)
      counted_more x m ex l em = record {
        at = n;
        passed = c.passed ++ row_of b n ∷ [];
        standing = standing_more b s c.passed c.at n c.standing ne m em;
        low = all_append (λ w. w.freq ≤ g) c.passed (row_of b n ∷ []) c.low (rw ex at l, tt);
        sum_is = let a = c.sum_is in let d = read.2 in omega (arith, sum_append (λ (w : Row). w.ends.count) c.passed (row_of b n ∷ []));
      }

  -- all rows that are left are above g
  counted_by : ((sp : List ℕ) (ws : List Row) → RecordsHold b sp s ws → (vs : List Row) × (ws ≡ c.passed ++ vs) × All (λ w. g < w.freq) vs)
      → CountsUpTo b s g counted
  counted_by left = record {
    answer = λ f p n' sp ls h.
        let q = left sp (rows h.lines) h.rep.records in
        c.sum_is ∙ sym (up_to_parts g c.passed q.0 c.low q.2) ∙ ap (sum (up_to g)) (sym q.1)
        ∙ rows_up_to (tabs f p n' b sp) g h.lines h.rep.each ∙ ap (count_up_to g) h.seen;
  }

  pub counted_end : n ≡ NONE → CountsUpTo b s g counted
  counted_end e = counted_by (λ sp ws h. ([], standing_end b s c.passed c.at n c.standing e sp ws h ∙ sym (append-nil c.passed), tt))

  pub counted_above : n ≢ NONE → (x : ℕ) → x ≡ frequency b n → g < x → CountsUpTo b s g counted
  counted_above ne x ex l = counted_by (λ sp ws h.
      let q = standing_next b s c.passed c.at n c.standing ne sp ws h in
      let above = (rising_around 0 c.passed (row_of b n) q.0 (subst (RecordsHold b sp s) q.1 h).rising).3 in
      (row_of b n ∷ q.0, q.1, (omega arith, all_map (λ w. frequency b n < w.freq) (λ w. g < w.freq) (λ w m. omega arith) q.0 above)))
