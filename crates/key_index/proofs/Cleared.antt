-- A cleared index: every class is empty and no slot is in.
use mathlib.Core.Path.{◌≡◌, ◌∙◌}
use mathlib.Core.List.{List, []}
use Prim.Native.Nat.{ℕ, ◌+◌, ◌/◌, ◌≤◌, ◌<◌}
use native.Mathlib.Omega.{arith}
use lib.ListN.{length, get_or}
use Rattle.numbers.specs.Marks.{NONE}
use Rattle.lists.proofs.Tests.{if_less, if_not_less}
use Rattle.key_index.specs.Index.{OUT, Has, Clears}
use Rattle.key_index.specs.Cleared.{cleared_cell}

pub cell_class : (half i : ℕ) → i < half → cleared_cell half i ≡ NONE
cell_class half i l = if_less i half NONE OUT l

pub cell_link : (half i : ℕ) → half ≤ i → cleared_cell half i ≡ OUT
cell_link half i l = if_not_less i half NONE OUT l

pub cleared : (index index' : List ℕ) → length index' ≡ length index → ((k : ℕ) → k < length index → get_or index' k 0 ≡ cleared_cell (length index / 2) k) → Clears index index'
cleared index index' size cell = record {
  size = size;
  sound = λ keys limit sized. record {
    limit = limit;
    sized = size ∙ sized;
    chains = λ c l. ([], record { chain = cell c (omega arith) ∙ cell_class (length index / 2) c (omega arith); ascending = tt; classes = tt });
    listed = λ s h. absurd (none keys sized s h);
  };
  none = none;
}
  where
    none : (keys : List ℕ) → length index ≡ length keys + length keys → (s : ℕ) → Has index' keys s → ⊥
    none keys sized s h =
        let l = h.0 in
        h.1 (cell (length keys + s) (omega arith) ∙ cell_link (length index / 2) (length keys + s) (omega arith))
