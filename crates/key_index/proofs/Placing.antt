-- The search for the place of a key, and what it says of the key. What carries it: the slots passed are those with smaller keys, and the list goes on from the word after them.
use mathlib.Core.Path.{◌≡◌, refl, sym, ap, ◌∙◌, subst}
use mathlib.Core.Logic.{◌≢◌}
use mathlib.Core.Bool.{cond}
use mathlib.Core.List.{List, [], ◌∷◌, ◌++◌, append_assoc}
use Prim.Native.Nat.{ℕ, ◌+◌, ◌≤◌, ◌<◌, ◌-◌}
use native.Mathlib.Omega.{arith}
use lib.ListN.{length, get_or}
use lib.Dec.{ltb}
use Rattle.lists.specs.Lists.{All}
use Rattle.lists.proofs.Tests.{if_less, if_not_less}
use Rattle.lists.proofs.Members.{all_map, all_in, all_mid, all_left, all_append}
use Rattle.links.specs.Chain.{Chain, cells}
use Rattle.links.proofs.Chains.{chain_below}
use Rattle.key_index.specs.Class.{class_of}
use Rattle.key_index.specs.Index.{link_of, Has, Absent, Ascending, Listed, IndexSound}
use Rattle.key_index.specs.Places.{word_after, Places}
use Rattle.key_index.proofs.Class.{class_below}
use Rattle.key_index.proofs.Ascending.{asc_right, asc_least}
use Rattle.key_index.proofs.Words.{word_more, word_below, word_rest}
use Rattle.key_index.proofs.Listing.{listed_has, has_in}

-- a search on its way: it passed the slots `before`, which have smaller keys, and stands at the word after them
pub record Placing (index keys : List ℕ) (key at : ℕ) : Type 0 where
  pub before : List ℕ
  pub after : List ℕ
  pub listed : Listed index keys (class_of key (length keys)) (before ++ after)
  pub smaller : All (λ s. cells keys s < key) before
  pub word : at ≡ word_after (length keys) (class_of key (length keys)) before

-- what is still ahead, seen from slot s: how far its key lies below
abbrev pub ahead : (keys : List ℕ) → (key s : ℕ) → ℕ
ahead keys key s = cond (ltb s (length keys)) (key + 1 - cells keys s) 0

module _ (index keys : List ℕ) (key at : ℕ) (p : Placing index keys key at) where
  -- the list goes on from the word
  pub rest : Chain (length keys) (link_of index keys) (get_or index at 0) p.after
  rest =
      rw p.word
      (word_rest (length keys) (cells index) (class_of key (length keys)) p.before p.after p.listed.chain)

  rest_ascending : Ascending (cells keys) p.after
  rest_ascending = asc_right (cells keys) p.before p.after p.listed.ascending

  pub place_below : IndexSound index keys → 0 < length keys → at < length index
  place_below sound l =
      omega (
        arith,
        sound.sized,
        p.word,
        word_below (length keys) (class_of key (length keys)) p.before (class_below key (length keys) l)
            (all_left (λ x. x < length keys) p.before p.after (chain_below (length keys) (link_of index keys) (get_or index (class_of key (length keys)) 0) (p.before ++ p.after) p.listed.chain)),
      )

  -- the slot at the word, if it is one, is the next of the list
  module _ (sound : IndexSound index keys) (s : ℕ) (e : s ≡ get_or index at 0) where
    pub next : s < length keys → (ys : List ℕ) × (p.after ≡ s ∷ ys)
    next l = go p.after rest
      where
        go : (vs : List ℕ) → Chain (length keys) (link_of index keys) (get_or index at 0) vs → (ys : List ℕ) × (vs ≡ s ∷ ys)
        go [] q = absurd (omega (arith, sound.limit))
        go (y ∷ ys) q = (ys, ap (λ (k : ℕ). k ∷ ys) (sym (e ∙ q.0)))

    -- on to the next slot, while its key is smaller
    pub place_more : s < length keys → cells keys s < key → Placing index keys key (length keys + s)
    place_more l m =
        let n = next l in
        record {
          before = p.before ++ s ∷ [];
          after = n.0;
          listed = rw append_assoc (subst (λ (vs : List ℕ). Listed index keys (class_of key (length keys)) (p.before ++ vs)) n.1 p.listed);
          smaller = all_append (λ r. cells keys r < key) p.before (s ∷ []) p.smaller (m, tt);
          word = sym (word_more (length keys) (class_of key (length keys)) p.before s);
        }

    pub place_less : s < length keys → cells keys s < key → ahead keys key (link_of index keys s) < ahead keys key s
    place_less l m =
        let n = next l in
        rw (if_less s (length keys) (key + 1 - cells keys s) 0 l)
        (go n.0 (subst (Chain (length keys) (link_of index keys) (get_or index at 0)) n.1 rest).2 (subst (Ascending (cells keys)) n.1 rest_ascending).0)
      where
        go : (ys : List ℕ) → Chain (length keys) (link_of index keys) (link_of index keys s) ys → All (λ r. cells keys s < cells keys r) ys
            → ahead keys key (link_of index keys s) < key + 1 - cells keys s
        go [] q a =
            let i = if_not_less (link_of index keys s) (length keys) (key + 1 - cells keys (link_of index keys s)) 0 (omega (arith, sound.limit)) in
            omega arith
        go (y ∷ ys) q a =
            let i = if_less (link_of index keys s) (length keys) (key + 1 - cells keys (link_of index keys s)) 0 (omega (arith, q.0, q.1)) in
            omega (arith, a.0, ap (cells keys) q.0)

    -- there, where the next slot's key is not smaller
    pub place_end : (s < length keys → key ≤ cells keys s) → Places index keys key at
    place_end h = record {
      before = p.before;
      after = p.after;
      listed = p.listed;
      smaller = p.smaller;
      others = go p.after rest rest_ascending;
      word = p.word;
    }
      where
        go : (vs : List ℕ) → Chain (length keys) (link_of index keys) (get_or index at 0) vs → Ascending (cells keys) vs → All (λ r. key ≤ cells keys r) vs
        go [] q a = tt
        go (y ∷ ys) q a = asc_least (cells keys) key y ys (omega (arith, h (omega (arith, q.0, q.1)), ap (cells keys) (e ∙ q.0))) a

pub place_start : (index keys : List ℕ) (key : ℕ) → IndexSound index keys → 0 < length keys → Placing index keys key (class_of key (length keys))
place_start index keys key sound l =
    let r = sound.chains (class_of key (length keys)) (class_below key (length keys) l) in
    record { before = []; after = r.0; listed = r.1; smaller = tt; word = refl }

-- ---- what a place says of the key

-- a place is where a search stands
abbrev pub placed : (index keys : List ℕ) (key at : ℕ) → Places index keys key at → Placing index keys key at
placed index keys key at p =
    record { before = p.before; after = p.after; listed = p.listed; smaller = p.smaller; word = p.word }

module _ (index keys : List ℕ) (key at : ℕ) (sound : IndexSound index keys) (p : Places index keys key at) where
  -- if the slots after the place have other keys, then no slot in the index has it
  pub place_absent : All (λ s. cells keys s ≢ key) p.after → Absent index keys key
  place_absent a s h e =
      all_in (λ r. cells keys r ≢ key) (p.before ++ p.after) s
      (all_append (λ r. cells keys r ≢ key) p.before p.after
      (all_map (λ r. cells keys r < key) (λ r. cells keys r ≢ key) (λ r l q. omega arith) p.before p.smaller) a)
      (has_in index keys sound s h (class_of key (length keys)) (ap (λ (k : ℕ). class_of k (length keys)) e) (p.before ++ p.after) p.listed)
      e

  -- the slot at the word is in the index
  pub place_has : get_or index at 0 < length keys → Has index keys (get_or index at 0)
  place_has l =
      let n = next index keys key at (placed index keys key at p) sound (get_or index at 0) refl l in
      (all_mid (Has index keys) p.before (get_or index at 0) n.0
      (listed_has index keys sound.limit (class_of key (length keys)) (p.before ++ get_or index at 0 ∷ n.0)
      (subst (λ (vs : List ℕ). Listed index keys (class_of key (length keys)) (p.before ++ vs)) n.1 p.listed))).0

  -- if the slot at the word, if it is one, has another key, then no slot has it
  pub place_not : (get_or index at 0 < length keys → cells keys (get_or index at 0) ≢ key) → Absent index keys key
  place_not h =
      place_absent (go p.after (rest index keys key at (placed index keys key at p)) (asc_right (cells keys) p.before p.after p.listed.ascending) p.others)
    where
      go : (vs : List ℕ) → Chain (length keys) (link_of index keys) (get_or index at 0) vs → Ascending (cells keys) vs → All (λ s. key ≤ cells keys s) vs
          → All (λ s. cells keys s ≢ key) vs
      go [] q a o = tt
      go (y ∷ ys) q a o = (
        (λ e. h (omega (arith, q.0, q.1)) (ap (cells keys) q.0 ∙ e)),
        all_map (λ r. cells keys y < cells keys r) (λ r. cells keys r ≢ key) (λ r m e. omega (arith, o.0)) ys a.0,
      )
