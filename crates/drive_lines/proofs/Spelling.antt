-- The pieces of a line one behind another: each line but a word of `drive` is a number and some rest, for which there is room.
use mathlib.Core.Path.{◌≡◌, ap, ◌∙◌}
use mathlib.Core.List.{List, [], ◌∷◌, ◌++◌}
use Prim.Native.Nat.{ℕ, ◌+◌, ◌≤◌}
use native.Mathlib.Omega.{arith}
use Rattle.numbers.specs.Answer.{DONE, number_of}
use Rattle.numbers.specs.declared.Refusal.{Refusal}
use Rattle.trace.specs.declared.Line.{Line}
use Rattle.trace.specs.declared.Line.TheVariants.{Plain}
use Rattle.trace.specs.declared.Word.{Word}
use Rattle.trace.specs.Lines as trace
use Rattle.trace.specs.Lines.{DIGITS, BLANK, FEED, decimal, spaced}
use Rattle.trace.specs.Written.{Writes, Spells}
use Rattle.trace.proofs.Writing.{spells_then, spelled, spells_more}
use Rattle.drive_lines.specs.declared.Told.{Told}
use Rattle.drive_lines.specs.declared.Told.TheVariants.{Done, One, Two, Stored, Refused, Just}
use Rattle.drive_lines.specs.Lines.{text, ending, LONGEST_TOLD}

-- Pieces

feed_spelled : (a : List ℕ) (i : ℕ) (b : List ℕ) (j : ℕ) → Writes a i (FEED ∷ []) b j → Spells a i (ending []) 1 b j
feed_spelled a i b j end = spelled a i (FEED ∷ []) b j 1 (omega arith) end

-- a value before what ends the line
value_spelled : (n : ℕ) (a : List ℕ) (i : ℕ) (b : List ℕ) (j : ℕ) (ns : List ℕ) (m : ℕ) (d : List ℕ) (k : ℕ) → Spells a i (spaced n) (1 + DIGITS) b j →
    Spells b j (ending ns) m d k → Spells a i (ending (n ∷ ns)) (1 + DIGITS + m) d k
value_spelled n a i b j ns m d k value rest = spells_then a i (spaced n) b j (ending ns) d k (1 + DIGITS) m value rest

module _ (t : Told) (out : List ℕ) (at : ℕ) where
  pub just_spelled : (w : Word) (d : List ℕ) (k : ℕ) → t ≡ Just w → Spells out at (trace.text (Plain w)) trace.LONGEST d k → Spells out at (text t) LONGEST_TOLD d k
  just_spelled w d k e word = rw e (spells_more out at (trace.text (Plain w)) d k trace.LONGEST LONGEST_TOLD (omega arith) word)

  module _ (b : List ℕ) (j : ℕ) where
    -- a number, and the rest of the line
    numbered : (n : ℕ) (rest : List ℕ) (m : ℕ) (d : List ℕ) (k : ℕ) → text t ≡ decimal n ++ rest → m ≤ 1 + trace.LONGEST → Spells out at (decimal n) DIGITS b j →
        Spells b j rest m d k → Spells out at (text t) LONGEST_TOLD d k
    numbered n rest m d k e room first more =
        rw e (spells_more out at (decimal n ++ rest) d k (DIGITS + m) LONGEST_TOLD (omega arith) (spells_then out at (decimal n) b j rest d k DIGITS m first more))

    -- a number alone
    alone_spelled : (n : ℕ) → Spells out at (decimal n) DIGITS b j → (d : List ℕ) (k : ℕ) → text t ≡ decimal n ++ ending [] → Writes b j (FEED ∷ []) d k →
        Spells out at (text t) LONGEST_TOLD d k
    alone_spelled n first d k e end = numbered n (ending []) 1 d k e (omega arith) first (feed_spelled b j d k end)

    pub refused_spelled : (why : Refusal) (n : ℕ) → n ≡ number_of why → Spells out at (decimal n) DIGITS b j → (d : List ℕ) (k : ℕ) → t ≡ Refused why →
        Writes b j (FEED ∷ []) d k → Spells out at (text t) LONGEST_TOLD d k
    refused_spelled why n is first d k e end = alone_spelled n first d k (ap text e ∙ rw is) end

    module _ (first : Spells out at (decimal DONE) DIGITS b j) where
      pub done_spelled : (d : List ℕ) (k : ℕ) → t ≡ Done → Writes b j (FEED ∷ []) d k → Spells out at (text t) LONGEST_TOLD d k
      done_spelled d k e end = alone_spelled DONE first d k (ap text e) end

      pub one_spelled : (n : ℕ) (b₁ : List ℕ) (j₁ : ℕ) → Spells b j (spaced n) (1 + DIGITS) b₁ j₁ → (d : List ℕ) (k : ℕ) → t ≡ One n → Writes b₁ j₁ (FEED ∷ []) d k →
          Spells out at (text t) LONGEST_TOLD d k
      one_spelled n b₁ j₁ value d k e end =
          let rest = value_spelled n b j b₁ j₁ [] 1 d k value (feed_spelled b₁ j₁ d k end) in
          numbered DONE (ending (n ∷ [])) (1 + DIGITS + 1) d k (ap text e) (omega arith) first rest

      pub two_spelled : (m : ℕ) (b₁ : List ℕ) (j₁ : ℕ) → Spells b j (spaced m) (1 + DIGITS) b₁ j₁ → (n : ℕ) (b₂ : List ℕ) (j₂ : ℕ) → Spells b₁ j₁ (spaced n) (1 + DIGITS) b₂ j₂ →
          (d : List ℕ) (k : ℕ) → t ≡ Two m n → Writes b₂ j₂ (FEED ∷ []) d k → Spells out at (text t) LONGEST_TOLD d k
      two_spelled m b₁ j₁ left n b₂ j₂ right d k e end =
          let last = value_spelled n b₁ j₁ b₂ j₂ [] 1 d k right (feed_spelled b₂ j₂ d k end) in
          let rest = value_spelled m b j b₁ j₁ (n ∷ []) (1 + DIGITS + 1) d k left last in
          numbered DONE (ending (m ∷ n ∷ [])) (1 + DIGITS + (1 + DIGITS + 1)) d k (ap text e) (omega arith) first rest

      pub stored_spelled : (b₁ : List ℕ) (j₁ : ℕ) → Writes b j (BLANK ∷ []) b₁ j₁ → (l : Line) (d : List ℕ) (k : ℕ) → t ≡ Stored l → Spells b₁ j₁ (trace.text l) trace.LONGEST d k →
          Spells out at (text t) LONGEST_TOLD d k
      stored_spelled b₁ j₁ gap l d k e line =
          let rest = spells_then b j (BLANK ∷ []) b₁ j₁ (trace.text l) d k 1 trace.LONGEST (spelled b j (BLANK ∷ []) b₁ j₁ 1 (omega arith) gap) line in
          numbered DONE ((BLANK ∷ []) ++ trace.text l) (1 + trace.LONGEST) d k (ap text e) (omega arith) first rest
