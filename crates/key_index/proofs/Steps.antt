-- What the calls do to an index. What carries it: a change at the words of one class leaves the lists of the other classes, and the list of that class is spliced.
use mathlib.Core.Path.{◌≡◌, refl, sym, ap, ◌∙◌, subst}
use mathlib.Core.Logic.{◌≢◌, ◌↔◌, ◌⊎◌, inl, inr}
use mathlib.Core.List.{List, ◌∷◌, ◌++◌}
use Prim.Native.Nat.{ℕ, ◌+◌, ◌≤◌, ◌<◌}
use native.Mathlib.Omega.{arith}
use lib.ListN.{length, get_or, set, length-set}
use lib.Seq.{get_or-set_same, get_or-set_other, lt-length-set}
use Rattle.numbers.specs.Marks.{NONE}
use Rattle.lists.specs.Lists.{All, In, Without, Distinct}
use Rattle.lists.proofs.Tests.{by_eq}
use Rattle.lists.proofs.Members.{all_any, all_map, all_both, all_in, all_left, all_right, all_mid, all_put, in_mid, in_put, in_others, in_either, in_without, distinct_apart}
use Rattle.links.specs.Chain.{Chain, cells}
use Rattle.links.proofs.Chains.{chain_same, chain_head}
use Rattle.key_index.specs.Index.{slot_class, OUT, link_of, Has, Absent, Listed, Inserts, Removes, IndexSound}
use Rattle.key_index.specs.Places.{Places}
use Rattle.key_index.proofs.Class.{class_below}
use Rattle.key_index.proofs.Ascending.{asc_right, asc_put, asc_drop, asc_first}
use Rattle.key_index.proofs.Words.{word_other, word_class, splice}
use Rattle.key_index.proofs.Listing.{listed_distinct, listed_has, has_in}
use Rattle.key_index.proofs.Placing.{placed, rest, place_below}

-- An index whose class c has the list `new` in place of `old`, with the other lists as they were.
replaced : (index index' keys : List ℕ) (c : ℕ) (old new : List ℕ) → IndexSound index keys → length index' ≡ length index → Listed index keys c old → Listed index' keys c new
    → ((d : ℕ) → d < length keys → d ≢ c → (ss : List ℕ) → Listed index keys d ss → Listed index' keys d ss)
    → ((x : ℕ) → Has index' keys x → In x new ⊎ (Has index keys x × (In x old → In x new))) → IndexSound index' keys
replaced index index' keys c old new sound size l l' elsewhere origin = record {
  limit = sound.limit;
  sized = size ∙ sound.sized;
  chains = λ d b.
      by_eq d c
      (λ e. (new, subst (λ (k : ℕ). Listed index' keys k new) (sym e) l'))
      (λ n. let r = sound.chains d b in (r.0, elsewhere d b n r.0 r.1));
  listed = λ x h. go x h (origin x h);
}
  where
    here : (x : ℕ) → In x new → (ss : List ℕ) × Listed index' keys (slot_class keys x) ss × In x ss
    here x i = (
      new,
      subst (λ (k : ℕ). Listed index' keys k new) (sym (all_in (λ s. slot_class keys s ≡ c) new x l'.classes i)) l',
      i,
    )

    go : (x : ℕ) → Has index' keys x → In x new ⊎ (Has index keys x × (In x old → In x new))
        → (ss : List ℕ) × Listed index' keys (slot_class keys x) ss × In x ss
    go x h (inl i) = here x i
    go x h (inr q) =
        by_eq (slot_class keys x) c
        (λ e. here x (q.1 (has_in index keys sound x q.0 c e old l)))
        (λ n.
        let r = sound.listed x q.0 in
        (r.0, elsewhere (slot_class keys x) (class_below (cells keys x) (length keys) (omega (arith, h.0))) n r.0 r.1, r.2))

-- Stores at the word w where the key of s belongs, and at the word of s.
module _ (index keys : List ℕ) (s w : ℕ) (sound : IndexSound index keys) (p : Places index keys (cells keys s) w) (slot : s < length keys) where
  class : slot_class keys s < length keys
  class = class_below (cells keys s) (length keys) (omega arith)

  pub w_below : w < length index
  w_below = place_below index keys (cells keys s) w (placed index keys (cells keys s) w p) sound (omega arith)

  link_below : length keys + s < length index
  link_below = omega (arith, sound.sized)

  -- what the word holds is no mark
  head_unmarked : get_or index w 0 ≤ NONE
  head_unmarked = go (chain_head (length keys) (link_of index keys) (get_or index w 0) p.after (rest index keys (cells keys s) w (placed index keys (cells keys s) w p)))
    where
      go : (get_or index w 0 ≡ NONE) ⊎ (get_or index w 0 < length keys) → get_or index w 0 ≤ NONE
      go (inl e) = omega arith
      go (inr l) = omega (arith, sound.limit)

  before_without : Without s p.before
  before_without =
      all_map (λ y. cells keys y < cells keys s) (λ y. y ≢ s) (λ y l e. omega (arith, ap (cells keys) e)) p.before p.smaller

  -- the word of a slot that is not before the place is another word
  word_apart : (x : ℕ) → Without x p.before → length keys + x ≢ w
  word_apart x f e =
      word_other (length keys) (slot_class keys s) p.before x (λ q. omega (arith, class)) f (e ∙ p.word)

  link_apart : length keys + s ≢ w
  link_apart = word_apart s before_without

  unchanged : (ys : List ℕ) → Distinct (p.before ++ ys) → All (λ y. length keys + y ≢ w) ys
  unchanged ys d = all_map (λ y. Without y p.before) (λ y. length keys + y ≢ w) (λ y f. word_apart y f) ys (distinct_apart p.before ys d)

  module _ (index' : List ℕ) (same : (k : ℕ) → k ≢ w → k ≢ length keys + s → cells index' k ≡ cells index k) where
    -- the lists of the other classes
    elsewhere : (d : ℕ) → d < length keys → d ≢ slot_class keys s → (ss : List ℕ) → Listed index keys d ss → Listed index' keys d ss
    elsewhere d b n ss l = record {
      chain =
          subst (λ (k : ℕ). Chain (length keys) (link_of index' keys) k ss)
          (sym (same d (λ e. word_class (length keys) (slot_class keys s) p.before d b n (e ∙ p.word)) (λ e. omega arith)))
          (chain_same (length keys) (link_of index keys) (link_of index' keys) (get_or index d 0) ss links l.chain);
      ascending = l.ascending;
      classes = l.classes;
    }
      where
        other : (x : ℕ) → slot_class keys x ≡ d → (y : ℕ) → slot_class keys y ≡ slot_class keys s → y ≢ x
        other x e y f q = n (sym e ∙ ap (slot_class keys) (sym q) ∙ f)

        links : All (λ x. link_of index' keys x ≡ link_of index keys x) ss
        links =
            all_map (λ x. slot_class keys x ≡ d) (λ x. link_of index' keys x ≡ link_of index keys x)
            (λ x e.
            same (length keys + x)
            (word_apart x
            (all_map (λ y. slot_class keys y ≡ slot_class keys s) (λ y. y ≢ x) (other x e) p.before
            (all_left (λ y. slot_class keys y ≡ slot_class keys s) p.before p.after p.listed.classes)))
            (λ q. other x e s refl (omega arith)))
            ss l.classes

    -- the list of the class, with another rest from w on
    spliced : (ys zs : List ℕ) → Listed index keys (slot_class keys s) (p.before ++ ys)
        → Chain (length keys) (link_of index' keys) (get_or index' w 0) zs → Chain (length keys) (link_of index' keys) (get_or index' (slot_class keys s) 0) (p.before ++ zs)
    spliced ys zs l q =
        let c = slot_class keys s in
        splice (length keys) (cells index) (cells index') s w same c p.before ys zs (sym p.word) (λ e. omega (arith, class)) before_without
        (all_any (λ y. length keys + y ≢ c) (λ y e. omega (arith, class)) (p.before ++ ys))
        (listed_distinct index keys sound.limit c (p.before ++ ys) l)
        l.chain q

    -- a chain that does not pass the two words
    kept : (f : ℕ) (ys : List ℕ) → All (λ y. length keys + y ≢ w) ys → Without s ys → Chain (length keys) (link_of index keys) f ys → Chain (length keys) (link_of index' keys) f ys
    kept f ys a b q =
        chain_same (length keys) (link_of index keys) (link_of index' keys) f ys
        (all_both (λ y. length keys + y ≢ w) (λ y. y ≢ s) (λ y. link_of index' keys y ≡ link_of index keys y) (λ y m n. same (length keys + y) m (λ e. n (omega arith))) ys a b)
        q

    -- whether another slot is in, where the word w holds no mark before and after
    others_stay : get_or index w 0 ≢ OUT → get_or index' w 0 ≢ OUT → (x : ℕ) → x ≢ s → Has index' keys x ↔ Has index keys x
    others_stay a b x n =
        by_eq (length keys + x) w
        (λ e. (λ h. (h.0, λ q. a (ap (cells index) (sym e) ∙ q)), λ h. (h.0, λ q. b (ap (cells index') (sym e) ∙ q))))
        (λ d.
        let e = same (length keys + x) d (λ i. n (omega arith)) in
        (λ h. (h.0, λ q. h.1 (e ∙ q)), λ h. (h.0, λ q. h.1 (sym e ∙ q))))

  -- ---- insert

  abbrev inserted_index : List ℕ
  inserted_index = set (set index (length keys + s) (get_or index w 0)) w s

  insert_same : (k : ℕ) → k ≢ w → k ≢ length keys + s → cells inserted_index k ≡ cells index k
  insert_same k m n =
      get_or-set_other (set index (length keys + s) (get_or index w 0)) w k s 0 m ∙ get_or-set_other index (length keys + s) k (get_or index w 0) 0 n

  insert_word : cells inserted_index w ≡ s
  insert_word =
      get_or-set_same (set index (length keys + s) (get_or index w 0)) w s 0 (lt-length-set index (length keys + s) (get_or index w 0) w_below)

  insert_link : link_of inserted_index keys s ≡ get_or index w 0
  insert_link =
      get_or-set_other (set index (length keys + s) (get_or index w 0)) w (length keys + s) s 0 link_apart
      ∙ get_or-set_same index (length keys + s) (get_or index w 0) 0 link_below

  insert_has : (x : ℕ) → Has inserted_index keys x ↔ ((x ≡ s) ⊎ Has index keys x)
  insert_has x = (λ h. by_eq x s (λ e. inl e) (λ n. inr ((stays n).0 h)), new)
    where
      stays : x ≢ s → Has inserted_index keys x ↔ Has index keys x
      stays = others_stay inserted_index insert_same (λ q. omega (arith, head_unmarked)) (λ q. omega (arith, insert_word, slot, sound.limit)) x

      at_s : x ≡ s → Has inserted_index keys x
      at_s e = (omega arith, λ q. omega (arith, head_unmarked, insert_link, ap (link_of inserted_index keys) e))

      new : (x ≡ s) ⊎ Has index keys x → Has inserted_index keys x
      new (inl e) = at_s e
      new (inr h) = by_eq x s at_s (λ n. (stays n).1 h)

  insert_listed : Absent index keys (cells keys s) → Listed inserted_index keys (slot_class keys s) (p.before ++ s ∷ p.after)
  insert_listed absent =
      let c = slot_class keys s in
      let inside = all_right (Has index keys) p.before p.after (listed_has index keys sound.limit c (p.before ++ p.after) p.listed) in
      let larger : All (λ y. cells keys s < cells keys y) p.after =
      all_both (Has index keys) (λ y. cells keys s ≤ cells keys y) (λ y. cells keys s < cells keys y) (λ y h l. less y (absent y h) l) p.after inside p.others in
      let fresh = all_map (λ y. cells keys s < cells keys y) (λ y. y ≢ s) (λ y l e. omega (arith, ap (cells keys) e)) p.after larger in
      record {
        chain =
            spliced inserted_index insert_same p.after (s ∷ p.after) p.listed (
              insert_word,
              slot,
              subst (λ (k : ℕ). Chain (length keys) (link_of inserted_index keys) k p.after) (sym insert_link)
                  (kept inserted_index insert_same (get_or index w 0) p.after (unchanged p.after (listed_distinct index keys sound.limit c (p.before ++ p.after) p.listed)) fresh
                  (rest index keys (cells keys s) w (placed index keys (cells keys s) w p))),
            );
        ascending = asc_put (cells keys) p.before s p.after p.smaller larger p.listed.ascending;
        classes = all_put (λ x. slot_class keys x ≡ c) p.before s p.after refl p.listed.classes;
      }
    where
      less : (y : ℕ) → cells keys y ≢ cells keys s → cells keys s ≤ cells keys y → cells keys s < cells keys y
      less y d l = by_eq (cells keys y) (cells keys s) (λ e. absurd (d e)) (λ n. omega arith)

  pub inserted : Inserts index keys s inserted_index
  inserted = record {
    size = simp length-set;
    sound = λ absent.
        replaced index inserted_index keys (slot_class keys s) (p.before ++ p.after) (p.before ++ s ∷ p.after) sound (simp length-set) p.listed
        (insert_listed absent) (elsewhere inserted_index insert_same) (λ x h. origin x ((insert_has x).0 h));
    has = λ absent. insert_has;
  }
    where
      origin : (x : ℕ) → (x ≡ s) ⊎ Has index keys x → In x (p.before ++ s ∷ p.after) ⊎ (Has index keys x × (In x (p.before ++ p.after) → In x (p.before ++ s ∷ p.after)))
      origin x (inl e) = inl (subst (λ (k : ℕ). In k (p.before ++ s ∷ p.after)) (sym e) (in_mid p.before s p.after))
      origin x (inr h) = inr (h, in_put x p.before s p.after)

  -- ---- remove

  abbrev removed_index : List ℕ
  removed_index = set (set index w (link_of index keys s)) (length keys + s) OUT

  remove_same : (k : ℕ) → k ≢ w → k ≢ length keys + s → cells removed_index k ≡ cells index k
  remove_same k m n =
      get_or-set_other (set index w (link_of index keys s)) (length keys + s) k OUT 0 n ∙ get_or-set_other index w k (link_of index keys s) 0 m

  remove_word : cells removed_index w ≡ link_of index keys s
  remove_word =
      get_or-set_other (set index w (link_of index keys s)) (length keys + s) w OUT 0 (λ e. link_apart (sym e)) ∙ get_or-set_same index w (link_of index keys s) 0 w_below

  remove_link : link_of removed_index keys s ≡ OUT
  remove_link =
      get_or-set_same (set index w (link_of index keys s)) (length keys + s) OUT 0 (lt-length-set index w (link_of index keys s) link_below)

  -- a slot that is in the index stands right after the place of its key
  after_place : Has index keys s → (ys : List ℕ) × (p.after ≡ s ∷ ys)
  after_place h = go (in_either s p.before p.after (has_in index keys sound s h (slot_class keys s) refl (p.before ++ p.after) p.listed))
    where
      go : In s p.before ⊎ In s p.after → (ys : List ℕ) × (p.after ≡ s ∷ ys)
      go (inl i) = absurd (in_without s p.before i before_without)
      go (inr i) = asc_first (cells keys) p.after s (asc_right (cells keys) p.before p.after p.listed.ascending) i p.others

  module _ (h : Has index keys s) (ys : List ℕ) (e : p.after ≡ s ∷ ys) where
    old_listed : Listed index keys (slot_class keys s) (p.before ++ s ∷ ys)
    old_listed = subst (λ (vs : List ℕ). Listed index keys (slot_class keys s) (p.before ++ vs)) e p.listed

    old_rest : Chain (length keys) (link_of index keys) (get_or index w 0) (s ∷ ys)
    old_rest = subst (Chain (length keys) (link_of index keys) (get_or index w 0)) e (rest index keys (cells keys s) w (placed index keys (cells keys s) w p))

    remove_has : (x : ℕ) → Has removed_index keys x ↔ (Has index keys x × (x ≢ s))
    remove_has x = (λ q. ((stays (out q)).0 q, out q), λ q. (stays q.1).1 q.0)
      where
        stays : x ≢ s → Has removed_index keys x ↔ Has index keys x
        stays = others_stay removed_index remove_same (λ q. omega (arith, old_rest.0, slot, sound.limit)) (λ q. h.1 (sym remove_word ∙ q)) x

        out : Has removed_index keys x → x ≢ s
        out q i = q.1 (ap (link_of removed_index keys) i ∙ remove_link)

    remove_listed : Listed removed_index keys (slot_class keys s) (p.before ++ ys)
    remove_listed =
        let c = slot_class keys s in
        let later = (asc_right (cells keys) p.before (s ∷ ys) old_listed.ascending).0 in
        record {
          chain =
              spliced removed_index remove_same (s ∷ ys) ys old_listed
              (subst (λ (k : ℕ). Chain (length keys) (link_of removed_index keys) k ys) (sym remove_word)
              (kept removed_index remove_same (link_of index keys s) ys (unchanged (s ∷ ys) (listed_distinct index keys sound.limit c (p.before ++ s ∷ ys) old_listed)).1
              (all_map (λ y. cells keys s < cells keys y) (λ y. y ≢ s) (λ y l a. omega (arith, ap (cells keys) a)) ys later) old_rest.2));
          ascending = asc_drop (cells keys) p.before s ys old_listed.ascending;
          classes = (all_mid (λ x. slot_class keys x ≡ c) p.before s ys old_listed.classes).1;
        }

    remove_sound : IndexSound removed_index keys
    remove_sound =
        replaced index removed_index keys (slot_class keys s) (p.before ++ s ∷ ys) (p.before ++ ys) sound (simp length-set) old_listed remove_listed
        (elsewhere removed_index remove_same)
        (λ x q. let r = (remove_has x).0 q in inr (r.0, in_others x p.before s ys (λ a. r.1 (sym a))))

  pub removed : Removes index keys s removed_index
  removed = record {
    size = simp length-set;
    sound = λ h. let a = after_place h in remove_sound h a.0 a.1;
    has = λ h. let a = after_place h in remove_has h a.0 a.1;
  }
