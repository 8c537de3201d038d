-- Why the check is exact. What carries it: a walk of a class that ends has met a list in ascending order, lists of different classes have no common slot,
-- and the slots that are marked as in the index are those that were met exactly when they are as many.
use mathlib.Core.Path.{◌≡◌, sym, ap, ◌∙◌, subst}
use mathlib.Core.Logic.{◌≢◌, ◌↔◌, ◌⊎◌, inl, inr}
use mathlib.Core.Bool.{true, not}
use mathlib.Core.List.{List, [], ◌∷◌, ◌++◌, append-nil}
use Prim.Native.Nat.{ℕ, ◌+◌, ◌≤◌, ◌<◌}
use native.Mathlib.Omega.{arith}
use lib.ListN.{length, get_or}
use lib.Dec.{eqb}
use borrow.Author.Tests.{eq-eqb, ne_eqb, eqb-true, eqb-false, not-true}
use Rattle.numbers.specs.Marks.{LIMIT, NONE}
use Rattle.lists.specs.Lists.{All, In, Without, final}
use Rattle.lists.proofs.Tests.{by_eq}
use Rattle.lists.proofs.Members.{all_map, all_in, all_mid, all_append, in_left, in_right, in_either, final_in, distinct_append}
use Rattle.lists.proofs.Pigeonhole.{marked_all, marked_cover}
use Rattle.links.specs.Chain.{Chain, cells}
use Rattle.links.proofs.Chains.{Walking, walk_more, walk_done, chain_length}
use Rattle.key_index.specs.Index.{slot_class, OUT, link_of, Has, Ascending, Listed, IndexSound}
use Rattle.key_index.specs.Check.{Follows, marked, in_index, Gathered}
use Rattle.key_index.proofs.Class.{class_below}
use Rattle.key_index.proofs.Ascending.{asc_mid, asc_put, asc_final}
use Rattle.key_index.proofs.Listing.{listed_one, listed_distinct, listed_has}

-- ---- one class

-- a walk of class c on its way, which met `us` and stands at `at`
pub record Meeting (index keys : List ℕ) (c : ℕ) (us : List ℕ) (at : ℕ) : Type 0 where
  pub walking : Walking (length keys) (link_of index keys) (get_or index c 0) us at
  pub below : All (λ x. x < length keys) us
  pub ascending : Ascending (cells keys) us
  pub classes : All (λ x. slot_class keys x ≡ c) us

module _ (index keys : List ℕ) (c : ℕ) (us : List ℕ) (at : ℕ) (limit : length keys ≤ LIMIT) (m : Meeting index keys c us at) where
  pub meet_more : at < length keys → Follows keys c (final NONE us) at → Meeting index keys c (us ++ at ∷ []) (link_of index keys at)
  meet_more l f = record {
    walking = walk_more (length keys) (link_of index keys) limit (get_or index c 0) us at l m.walking;
    below = all_append (λ x. x < length keys) us (at ∷ []) m.below (l, tt);
    ascending = asc_put (cells keys) us at [] (smaller us m.below m.ascending f.larger) tt (rw append-nil m.ascending);
    classes = all_append (λ x. slot_class keys x ≡ c) us (at ∷ []) m.classes (f.class, tt);
  }
    where
      smaller : (xs : List ℕ) → All (λ x. x < length keys) xs → Ascending (cells keys) xs → (final NONE xs < length keys → cells keys (final NONE xs) < cells keys at)
          → All (λ x. cells keys x < cells keys at) xs
      smaller [] b a g = tt
      smaller (x ∷ xs) b a g = asc_final (cells keys) x xs (cells keys at) a (g (final_in (λ y. y < length keys) x xs b.0 b.1))

  -- if the class has a list, then the next slot follows
  pub meet_follows : at < length keys → (ss : List ℕ) → Listed index keys c ss → Follows keys c (final NONE us) at
  meet_follows l ss k = let r = m.walking.forth ss k.chain in go r.0 r.1 r.2
    where
      go : (ys : List ℕ) → Chain (length keys) (link_of index keys) at ys → ss ≡ us ++ ys → Follows keys c (final NONE us) at
      go [] q e = absurd (omega arith)
      go (y ∷ ys) q e =
          let whole : ss ≡ us ++ at ∷ ys = e ∙ ap (λ (x : ℕ). us ++ x ∷ ys) (sym q.0) in
          record {
            class = (all_mid (λ x. slot_class keys x ≡ c) us at ys (subst (All (λ x. slot_class keys x ≡ c)) whole k.classes)).0;
            larger = last us (asc_mid (cells keys) us at ys (subst (Ascending (cells keys)) whole k.ascending));
          }
        where
          last : (xs : List ℕ) → All (λ x. cells keys x < cells keys at) xs → final NONE xs < length keys → cells keys (final NONE xs) < cells keys at
          last [] a b = absurd (omega arith)
          last (x ∷ xs) a b = final_in (λ z. cells keys z < cells keys at) x xs a.0 a.1

  pub meet_listed : at ≡ NONE → Listed index keys c us
  meet_listed e = record { chain = rw append-nil at (m.walking.back [] e); ascending = m.ascending; classes = m.classes }

  -- off the table, or after as many slots as there are, a walk that did not end shows that there is no list
  pub meet_fault : (at < length keys → length keys ≤ length us) → at ≢ NONE → (ss : List ℕ) → Listed index keys c ss → ⊥
  meet_fault out d ss k =
      d ((walk_done (length keys) (link_of index keys) limit (get_or index c 0) us at out m.walking).whole ss k.chain).0

-- ---- all classes

pub gather_more : (index keys : List ℕ) (c : ℕ) (ms ss : List ℕ) → length keys ≤ LIMIT → Gathered index keys c ms → Listed index keys c ss → Gathered index keys (c + 1) (ms ++ ss)
gather_more index keys c ms ss limit g l = record {
  below =
      all_append (λ s. slot_class keys s < c + 1) ms ss
      (all_map (λ s. slot_class keys s < c) (λ s. slot_class keys s < c + 1) (λ s b. omega arith) ms g.below)
      (all_map (λ s. slot_class keys s ≡ c) (λ s. slot_class keys s < c + 1) (λ s e. omega arith) ss l.classes);
  distinct =
      distinct_append ms ss g.distinct (listed_distinct index keys limit c ss l)
      (all_map (λ s. slot_class keys s ≡ c) (λ s. Without s ms) apart ss l.classes);
  inside = all_append (Has index keys) ms ss g.inside (listed_has index keys limit c ss l);
  lists = λ d b.
      by_eq d c
      (λ e. (ss, subst (λ (k : ℕ). Listed index keys k ss) (sym e) l, λ s i. in_right s ms ss i))
      (λ n. let r = g.lists d (omega arith) in (r.0, r.1, λ s i. in_left s ms ss (r.2 s i)));
  origin = λ s i. from s (in_either s ms ss i);
}
  where
    apart : (s : ℕ) → slot_class keys s ≡ c → Without s ms
    apart s e =
        all_map (λ x. slot_class keys x < c) (λ x. x ≢ s)
        (λ x b q. omega (arith, ap (slot_class keys) q)) ms g.below

    from : (s : ℕ) → In s ms ⊎ In s ss → (rs : List ℕ) × Listed index keys (slot_class keys s) rs × In s rs
    from s (inl i) = g.origin s i
    from s (inr i) = (
      ss,
      subst (λ (k : ℕ). Listed index keys k ss) (sym (all_in (λ x. slot_class keys x ≡ c) ss s l.classes i)) l,
      i,
    )

-- a list has at most as many slots as there are
pub listed_length : (index keys : List ℕ) (c : ℕ) (ss : List ℕ) → length keys ≤ LIMIT → Listed index keys c ss → length ss ≤ length keys
listed_length index keys c ss limit l = chain_length (length keys) (link_of index keys) limit (get_or index c 0) ss l.chain

-- ---- the marks

pub marked_has : (index keys : List ℕ) (s : ℕ) → s < length keys → marked index keys s ≡ true → Has index keys s
marked_has index keys s l e = (l, eqb-false (link_of index keys s) OUT (not-true (eqb (link_of index keys s) OUT) e))

pub has_marked : (index keys : List ℕ) (s : ℕ) → Has index keys s → marked index keys s ≡ true
has_marked index keys s h = ap not (ne_eqb (link_of index keys s) OUT h.1)

module _ (index keys ms : List ℕ) (limit : length keys ≤ LIMIT) (sized : length index ≡ length keys + length keys) (g : Gathered index keys (length keys) ms) where
  below : All (λ s. s < length keys) ms
  below = all_map (Has index keys) (λ s. s < length keys) (λ s h. h.0) ms g.inside

  marks : All (λ s. marked index keys s ≡ true) ms
  marks = all_map (Has index keys) (λ s. marked index keys s ≡ true) (λ s h. has_marked index keys s h) ms g.inside

  pub counts : (n m : ℕ) → length ms ≡ n → m ≡ in_index index keys → (eqb m n ≡ true) ↔ IndexSound index keys
  counts n m e f = (
    λ q. record {
      limit = limit;
      sized = sized;
      chains = λ c b. let r = g.lists c b in (r.0, r.1);
      listed = λ s h.
          g.origin s
          (marked_all (marked index keys) (length keys) ms g.distinct below marks (e ∙ sym (eqb-true m n q) ∙ f) s h.0 (has_marked index keys s h));
    },
    λ sound. eq-eqb m n (f ∙ sym (marked_cover (marked index keys) (length keys) ms g.distinct below marks (λ s l k. met sound s (marked_has index keys s l k))) ∙ e),
  )
    where
      met : IndexSound index keys → (s : ℕ) → Has index keys s → In s ms
      met sound s h =
          let r = sound.listed s h in
          let q = g.lists (slot_class keys s) (class_below (cells keys s) (length keys) (omega (arith, h.0))) in
          q.2 s (subst (In s) (listed_one index keys limit (slot_class keys s) r.0 q.0 r.1 q.1) r.2)
