-- The words of the records as functions, and what a store does to them: it is seen in its own word, at its record, and nowhere else.
use mathlib.Core.Path.{◌≡◌, refl, ap, ◌∙◌}
use mathlib.Core.Logic.{◌≢◌, ⊎_elim}
use mathlib.Core.List.{List}
use Prim.Native.Nat.{ℕ, ◌+◌, ◌*◌, ◌<◌, ◌≤◌}
use native.Mathlib.Omega.{arith}
use lib.ListN.{length, set, length-set}
use lib.Seq.{get_or-set_same, get_or-set_other}
use Rattle.numbers.specs.Marks.{NONE}
use Rattle.links.specs.Ring.{upd}
use Rattle.links.proofs.Functions.{is_upd, look_swap, look_upd}
use Rattle.bucket_table.specs.Records.{WORDS, word, empty, InTable}
use Rattle.bucket_table.specs.Calls.{Stored, Linked, SetEnds, RecordsFilled}

pub stored : (w : ℕ) (b : List ℕ) (r v : ℕ) → InTable b r → w < WORDS → Stored w b r v (set b (r * WORDS + w) v)
stored w b r v fits wide = record {
  size = length-set b (r * WORDS + w) v;
  made =
      is_upd (word w b) (word w (set b (r * WORDS + w) v)) r v (get_or-set_same b (r * WORDS + w) v 0 (omega arith))
      (λ k q. get_or-set_other b (r * WORDS + w) (k * WORDS + w) v 0 (λ e. q (omega arith)));
  rest = λ u h i k. get_or-set_other b (r * WORDS + w) (k * WORDS + u) v 0 (λ e. h.1 (let l = h.0 in omega arith)) i;
}

-- ---- `link`

pub link_in : (w : ℕ) (b : List ℕ) (e i v : ℕ) → w < WORDS → i < NONE → i * WORDS + w < length b → Linked w b e i v (set b (i * WORDS + w) v) e
link_in w b e i v wide h q = record {
  size = length-set b (i * WORDS + w) v;
  made = ⊎_elim (λ f. rw (stored w b i v f.1 wide).made (look_upd (word w b) e i v (omega arith))) (λ f. absurd (omega arith));
  rest = λ u h i₁ k. get_or-set_other b (i * WORDS + w) (k * WORDS + u) v 0 (λ e. h.1 (let l = h.0 in omega arith)) i₁;
}

pub link_out : (w : ℕ) (b : List ℕ) (e i v : ℕ) → NONE ≤ i → Linked w b e i v b v
link_out w b e i v h = record {
  size = refl;
  made = ⊎_elim (λ f. let l = f.0 in absurd (omega arith)) (λ f. rw f (look_swap (word w b) e v));
  rest = λ u _. refl;
}

-- ---- `fill`

module _ (b : List ℕ) (r f l h : ℕ) (b₁ b₂ b₃ b' : List ℕ)
    (s₀ : Stored 0 b r f b₁) (s₁ : Stored 1 b₁ r l b₂) (s₂ : Stored 2 b₂ r h b₃) (se : SetEnds b₃ r empty b') where
  -- what the stores before a word's own leave of it
  before_it : (w v : ℕ) (c d : List ℕ) → word w d ≡ upd (word w c) r v → word w c ≡ word w b → word w d ≡ upd (word w b) r v
  before_it w v c d m e = m ∙ ap (λ (g : ℕ → ℕ). upd g r v) e

  -- the words that are written last, or not at all
  late : (w : ℕ) → (w < WORDS) × (w ≢ 0) × (w ≢ 1) × (w ≢ 2) → word w b₃ ≡ word w b
  late w n = s₂.rest w (n.0, n.3) ∙ s₁.rest w (n.0, n.2) ∙ s₀.rest w (n.0, n.1)

  pub filled : RecordsFilled b r f l h b'
  filled = record {
    size = se.size ∙ s₂.size ∙ s₁.size ∙ s₀.size;
    frequencies = se.rest 0 (omega arith) ∙ s₂.rest 0 (omega arith) ∙ s₁.rest 0 (omega arith) ∙ s₀.made;
    lowers = se.rest 1 (omega arith) ∙ s₂.rest 1 (omega arith) ∙ before_it 1 l b₁ b₂ s₁.made (s₀.rest 1 (omega arith));
    highers = se.rest 2 (omega arith) ∙ before_it 2 h b₂ b₃ s₂.made (s₁.rest 2 (omega arith) ∙ s₀.rest 2 (omega arith));
    heads = before_it 3 NONE b₃ b' se.heads (late 3 (omega arith));
    tails = before_it 4 NONE b₃ b' se.tails (late 4 (omega arith));
    counts = before_it 5 0 b₃ b' se.counts (late 5 (omega arith));
    owners = se.owners ∙ late 6 (omega arith);
  }
