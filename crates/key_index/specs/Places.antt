-- Where a key belongs.
use Rattle.std.specs.Prelude.{◌≡◌, List, [], ◌∷◌, ◌++◌, ℕ, ◌+◌, ◌≤◌, ◌<◌, length}
use Rattle.lists.specs.Lists.{All}
use Rattle.links.specs.Chain.{cells}
use Rattle.key_index.specs.Class.{class_of}
use Rattle.key_index.specs.Index.{Listed}

-- the word that follows the slots us, where a list begins at word h: h itself, or the link of the last of them
abbrev pub word_after : (size h : ℕ) → List ℕ → ℕ
word_after size h [] = h
word_after size h (x ∷ us) = word_after size (size + x) us

-- in the list of its class, the key belongs after word w: the slots before it have smaller keys, the others do not
pub record Places (index keys : List ℕ) (key w : ℕ) : Type 0 where
  pub before : List ℕ
  pub after : List ℕ
  pub listed : Listed index keys (class_of key (length keys)) (before ++ after)
  pub smaller : All (λ s. cells keys s < key) before
  pub others : All (λ s. key ≤ cells keys s) after
  pub word : w ≡ word_after (length keys) (class_of key (length keys)) before
