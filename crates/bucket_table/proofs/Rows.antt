-- What the rows that the tables hold say: numbers, order, and the neighbours of a row. All of it follows from the ring of records and the arena's marks.
use mathlib.Core.Path.{◌≡◌, refl, sym, ◌∙◌}
use mathlib.Core.Logic.{◌≢◌, inl, inr}
use mathlib.Core.List.{List, [], ◌∷◌, ◌++◌, map-append}
use Prim.Native.Nat.{ℕ, ◌<◌, ◌≤◌}
use native.Mathlib.Omega.{arith}
use lib.ListN.{length}
use Rattle.numbers.specs.Marks.{NONE}
use Rattle.numbers.specs.Frequency.{CEILING}
use Rattle.lists.specs.Lists.{All, Without, Distinct, final}
use Rattle.lists.proofs.Members.{all_map, all_mid, all_left, all_right, final_in}
use Rattle.lists.proofs.Maps.{images_all}
use Rattle.links.specs.Ring.{Links}
use Rattle.links.proofs.Functions.{look_at}
use Rattle.links.proofs.Rings.{past, once, distinct, first}
use Rattle.slot_arena.specs.Arena.{InUse}
use Rattle.slot_arena.proofs.Uses.{uses_free}
use Rattle.bucket_table.specs.declared.Buckets.{Buckets}
use Rattle.bucket_table.specs.Records.{lower, up, down, InTable, Spot, Row, nums, Written, RecordsHold, RowsRise}

-- ---- lists of rows

pub nums_append : (us vs : List Row) → nums (us ++ vs) ≡ nums us ++ nums vs
nums_append us vs = map-append (λ w. w.num) us vs

pub all_nums : (Q : ℕ → Type 0) (ws : List Row) → All Q (nums ws) → All (λ w. Q w.num) ws
all_nums Q ws h = images_all (λ w. w.num) Q ws h

-- ---- rising

pub rising_less : (f g : ℕ) (ws : List Row) → f ≤ g → RowsRise g ws → RowsRise f ws
rising_less f g [] l r = tt
rising_less f g (w ∷ ws) l r = let a = r.0 in (omega arith, r.1, r.2)

-- all rows have more than f
pub rising_above : (f : ℕ) (ws : List Row) → RowsRise f ws → All (λ w. f < w.freq) ws
rising_above f [] r = tt
rising_above f (w ∷ ws) r =
    let a = r.0 in (a, all_map (λ v. w.freq < v.freq) (λ v. f < v.freq) (λ v l. omega arith) ws (rising_above w.freq ws r.2))

-- the rows before one have less, and those after it more
pub rising_around : (f : ℕ) (us : List Row) (w : Row) (vs : List Row) → RowsRise f (us ++ w ∷ vs)
    → All (λ u. u.freq < w.freq) us × (f < w.freq) × (w.freq ≤ CEILING) × All (λ v. w.freq < v.freq) vs
rising_around f [] w vs r = (tt, r.0, r.1, rising_above w.freq vs r.2)
rising_around f (u ∷ us) w vs r =
    let m = rising_around u.freq us w vs r.2 in let a = r.0 in let b = m.1 in ((b, m.0), omega arith, m.2, m.3)

pub rising_out : (f : ℕ) (us : List Row) (w : Row) (vs : List Row) → RowsRise f (us ++ w ∷ vs) → RowsRise f (us ++ vs)
rising_out f [] w vs r = let a = r.0 in rising_less f w.freq vs (omega arith) r.2
rising_out f (u ∷ us) w vs r = (r.0, r.1, rising_out u.freq us w vs r.2)

pub rising_in : (f : ℕ) (us : List Row) (w : Row) (vs : List Row) → f < w.freq → w.freq ≤ CEILING → All (λ u. u.freq < w.freq) us → All (λ v. w.freq < v.freq) vs
    → RowsRise f (us ++ vs) → RowsRise f (us ++ w ∷ vs)
rising_in f [] w [] l c hu hv r = (l, c, tt)
rising_in f [] w (v ∷ vs) l c hu hv r = (l, c, (hv.0, r.1, r.2))
rising_in f (u ∷ us) w vs l c hu hv r = (r.0, r.1, rising_in u.freq us w vs hu.0 c hu.1 hv r.2)

-- ---- the rows that are held

module _ (b sp : List ℕ) (s : Buckets) where
  module _ (ws : List Row) (h : RecordsHold b sp s ws) where
    pub holds_limit : length sp ≤ NONE
    holds_limit = h.uses.sound.1.limit

    -- the records in use are in the table
    pub in_tables : All (λ r. (r < NONE) × InTable b r) (nums ws)
    in_tables =
        let l = holds_limit in let z = h.size in
        all_map (InUse sp) (λ r. (r < NONE) × InTable b r) (λ r m. let i = m.0 in (omega arith, omega arith)) (nums ws) h.uses.marks

    pub clear : Without NONE (nums ws)
    clear = all_map (λ r. (r < NONE) × InTable b r) (λ r. r ≢ NONE) (λ r m. let l = m.0 in omega arith) (nums ws) in_tables

    pub spots : All (Spot b) (nums ws)
    spots = all_map (λ r. (r < NONE) × InTable b r) (Spot b) (λ r m. inl m) (nums ws) in_tables

    pub nums_distinct : Distinct (nums ws)
    nums_distinct = distinct (up b s) (down b s) NONE (nums ws) NONE clear h.ring

    -- a record is spare while there are fewer rows than records
    pub room : length (nums ws) < length sp → s.spare.first < length sp
    room l = uses_free sp s.spare (nums ws) h.uses l

  -- rows in two parts
  module _ (us vs : List Row) (h : RecordsHold b sp s (us ++ vs)) where
    pub ring_parts : Links (up b s) (down b s) NONE (nums us ++ nums vs) NONE
    ring_parts = rw (nums_append us vs) at h.ring

    spots_parts : All (Spot b) (nums us ++ nums vs)
    spots_parts = rw (nums_append us vs) at (spots (us ++ vs) h)

    -- the last record of the lower part, and the one above it
    pub at_spot : Spot b (final NONE (nums us))
    at_spot = final_in (Spot b) NONE (nums us) (inr refl) (all_left (Spot b) (nums us) (nums vs) spots_parts)

    pub above_spot : Spot b (up b s (final NONE (nums us)))
    above_spot =
        first (up b s) (down b s) (Spot b) (final NONE (nums us)) (nums vs) NONE (all_right (Spot b) (nums us) (nums vs) spots_parts) (inr refl)
        (past (up b s) (down b s) NONE (nums us) (nums vs) NONE ring_parts)

  pub above_none : (us : List Row) → RecordsHold b sp s (us ++ []) → up b s (final NONE (nums us)) ≡ NONE
  above_none us h = (past (up b s) (down b s) NONE (nums us) [] NONE (ring_parts us [] h)).0

  -- a row in the middle
  module _ (us : List Row) (w : Row) (vs : List Row) (h : RecordsHold b sp s (us ++ w ∷ vs)) where
    pub above_row : up b s (final NONE (nums us)) ≡ w.num
    above_row = (past (up b s) (down b s) NONE (nums us) (nums (w ∷ vs)) NONE (ring_parts us (w ∷ vs) h)).0

    pub row_used : InUse sp w.num
    row_used = (all_mid (InUse sp) (nums us) w.num (nums vs) (rw (nums_append us (w ∷ vs)) at h.uses.marks)).0

    pub row_in : (w.num < NONE) × InTable b w.num
    row_in = (all_mid (λ r. (r < NONE) × InTable b r) (nums us) w.num (nums vs) (rw (nums_append us (w ∷ vs)) at (in_tables (us ++ w ∷ vs) h))).0

    pub row_some : w.num ≢ NONE
    row_some = let l = row_in.0 in omega arith

    pub below_row : lower b w.num ≡ final NONE (nums us)
    below_row = sym (look_at (lower b) s.top w.num row_some) ∙ (past (up b s) (down b s) NONE (nums us) (nums (w ∷ vs)) NONE (ring_parts us (w ∷ vs) h)).1

    -- no other row has this record
    pub row_once : Without w.num (nums us ++ nums vs)
    row_once =
        once (up b s) (down b s) NONE (nums us) w.num (nums vs) NONE (rw (nums_append us (w ∷ vs)) at (clear (us ++ w ∷ vs) h)) (ring_parts us (w ∷ vs) h)

    pub rows_others : All (λ v. v.num ≢ w.num) (us ++ vs)
    rows_others = all_nums (λ k. k ≢ w.num) (us ++ vs) (rw (nums_append us vs) row_once)

    pub row_written : Written b w
    row_written = (all_mid (Written b) us w vs h.each).0

    pub others_written : All (Written b) (us ++ vs)
    others_written = (all_mid (Written b) us w vs h.each).1

  -- the record above a row's is that of the next row
  pub next_row : (us : List Row) (w v : Row) (vs : List Row) → RecordsHold b sp s (us ++ w ∷ v ∷ vs) → up b s w.num ≡ v.num
  next_row us w v vs h = (past (up b s) (down b s) NONE (nums us) (nums (w ∷ v ∷ vs)) NONE (ring_parts us (w ∷ v ∷ vs) h)).2.0
