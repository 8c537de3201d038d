-- How an input begins: the code's tests find what its first bytes come to, whatever follows them does not matter to it, and the whole
-- output goes on from there. A header that begins has all its bytes and a capacity that the tables have places for.
use mathlib.Core.Path.{◌≡◌, refl, sym, ap, ◌∙◌}
use mathlib.Core.List.{List, [], ◌∷◌, ◌++◌}
use Prim.Native.Nat.{ℕ, ◌≤◌, ◌<◌}
use native.Mathlib.Omega.{arith}
use borrow.Author.Tests.{lt-ltb, le-ltb}
use lib.ListN.{length, get_or, drop, length-append}
use lib.Seq.{take-append-le, drop_at}
use Rattle.std.proofs.Common.{Result, Ok, Err}
use Rattle.lists.proofs.Tests.{by_lt}
use Rattle.trace.specs.declared.Word.{Word}
use Rattle.trace.specs.declared.Word.TheVariants as word
use Rattle.trace.specs.Output.{little, SLOTS, HEADER, capacity_of, header_of, begun, output}

-- The code's tests

two_first : (bs : List ℕ) → HEADER ≤ length bs → capacity_of bs ≡ little (get_or bs 0 0 ∷ (get_or bs 1 0 ∷ []))
two_first [] h = absurd (omega arith)
two_first (b ∷ []) h = absurd (omega arith)
two_first (a ∷ (b ∷ bs)) h = refl

module _ (bs : List ℕ) where
  pub header_cut : length bs < HEADER → Err word.Cut ≡ header_of bs
  unfolding header_of
  header_cut few = rw (lt-ltb (length bs) HEADER few)

  module _ (capacity : ℕ) (enough : HEADER ≤ length bs) (is : capacity ≡ little (get_or bs 0 0 ∷ (get_or bs 1 0 ∷ []))) where
    pub header_large : SLOTS < capacity → Err word.Capacity ≡ header_of bs
    unfolding header_of
    header_large large = rw (le-ltb (length bs) HEADER enough, two_first bs enough, sym is, lt-ltb SLOTS capacity large)

    pub header_begins : capacity ≤ SLOTS → Ok capacity ≡ header_of bs
    unfolding header_of
    header_begins fits = rw (le-ltb (length bs) HEADER enough, two_first bs enough, sym is, le-ltb SLOTS capacity fits)

-- What a header that begins has

pub begins_fits : (bs : List ℕ) (capacity : ℕ) → header_of bs ≡ Ok capacity → (HEADER ≤ length bs) × (capacity ≤ SLOTS)
begins_fits bs capacity e =
    by_lt (length bs) HEADER
    (λ few. let cut = header_cut bs few in let z : ◌≡◌ {A = ℕ} 0 1 = cc in absurd (omega arith))
    (λ enough.
    let is = two_first bs enough in
    by_lt SLOTS (capacity_of bs)
    (λ large. let stops = header_large bs (capacity_of bs) enough is large in let z : ◌≡◌ {A = ℕ} 0 1 = cc in absurd (omega arith))
    (λ fits. let begins = header_begins bs (capacity_of bs) enough is fits in let same : capacity ≡ capacity_of bs = cc in (enough, omega arith)))

-- The whole output

pub output_begun : (bs : List ℕ) (h : Result ℕ Word) → h ≡ header_of bs → output bs ≡ begun h (drop HEADER bs)
unfolding output
output_begun bs h e = rw e

-- what follows the header's bytes
module _ (first rest : List ℕ) (all : length first ≡ HEADER) where
  header_first : header_of (first ++ rest) ≡ header_of first
  unfolding header_of
  header_first =
      let inside : 2 ≤ length first = omega arith in
      let more : HEADER ≤ length (first ++ rest) = simp length-append (omega arith) in
      rw (le-ltb (length (first ++ rest)) HEADER more, le-ltb (length first) HEADER inside, take-append-le)

  pub output_first : (h : Result ℕ Word) → h ≡ header_of first → output (first ++ rest) ≡ begun h rest
  output_first h e = output_begun (first ++ rest) h (e ∙ sym header_first) ∙ ap (begun h) (drop_at first rest HEADER all)
