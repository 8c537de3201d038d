-- The tables hold at most one list of rows: the ring has one reading, and each row's words are in the table.
use mathlib.Core.Path.{◌≡◌, refl, sym, ap, ◌∙◌}
use mathlib.Core.List.{List, [], ◌∷◌, map}
use Prim.Native.Nat.{ℕ}
use Rattle.numbers.specs.Marks.{NONE}
use Rattle.lists.specs.Lists.{All}
use Rattle.links.proofs.Rings.{links_one}
use Rattle.bucket_table.specs.declared.Buckets.{Buckets}
use Rattle.bucket_table.specs.Records.{up, down, Row, row, row_of, nums, Written, RecordsHold}
use Rattle.bucket_table.proofs.Rows.{clear}

pub row_is : (b : List ℕ) (w : Row) → Written b w → w ≡ row_of b w.num
row_is b w h = λ i. row w.num (sym h.freq_is i) (record { head = sym h.head_is i; tail = sym h.tail_is i; count = sym h.count_is i })

pub rows_of : (b : List ℕ) (ws : List Row) → All (Written b) ws → ws ≡ map (row_of b) (nums ws)
rows_of b [] h = refl
rows_of b (w ∷ ws) h = let e = row_is b w h.0 in let r = rows_of b ws h.1 in λ i. e i ∷ r i

pub holds_one : (b sp : List ℕ) (s : Buckets) (vs ws : List Row) → RecordsHold b sp s vs → RecordsHold b sp s ws → vs ≡ ws
holds_one b sp s vs ws h k =
    rows_of b vs h.each
    ∙ ap (map (row_of b)) (links_one (up b s) (down b s) NONE (nums vs) (nums ws) NONE (clear b sp s vs h) (clear b sp s ws k) h.ring k.ring)
    ∙ sym (rows_of b ws k.each)
