-- What the stores of each call do to the list that two lent tables hold: the laws of rings, at the tables' links.
use Rattle.std.proofs.Common.{◌≡◌, ℕ, ◌+◌, ◌%◌, ◌^◌, ◌<◌, ◌≤◌, ◌≢◌, ◌⊎◌, List, ◌∷◌, ◌++◌, length, get_or, set, sym, refl, ◌∙◌, inl, inr, ⊎_elim, subst, mod-eq_of_lt, arith, length-append, length-set, get_or-set_other}
use Rattle.numbers.specs.Marks.{NONE}
use Rattle.lists.specs.Lists.{All, In, Without, Distinct, final}
use Rattle.lists.proofs.Tests.{by_lt}
use Rattle.lists.proofs.Pigeonhole.{distinct_few}
use Rattle.lists.proofs.Members.{all_map, all_both, all_mid, all_in, all_of}
use Rattle.links.specs.Chain.{cells}
use Rattle.links.specs.Ring.{Links, upd, look}
use Rattle.links.specs.Linked.{next, prev, Ring, Fits, Put, Kept, Pushed, Unlinked, Moved, Linked, linked}
use Rattle.links.proofs.Functions.{look_end, look_at, look_swap, look_upd, cells_upd}
use Rattle.links.proofs.Rings.{links_same, links_one, last_is, once, distinct, around, first, remove, push}

-- ---- `put`

pub put_in : (t : List ℕ) (e i v : ℕ) → length t ≤ NONE → i < length t → Put t e i v (set t i v) e
put_in t e i v r h = record {
  size = length-set t i v;
  link = λ _. rw (cells_upd t i v h) (look_upd (cells t) e i v (omega arith));
  rest = λ k n. get_or-set_other t i k v 0 n;
}

pub put_out : (t : List ℕ) (e i v : ℕ) → length t ≤ i → Put t e i v t v
put_out t e i v h = record { size = refl; link = ⊎_elim (λ l. absurd (omega arith)) (λ q. rw q (look_swap (cells t) e v)); rest = λ k n. refl }

-- the length after a store and a `put`
pub put_size : (t t' : List ℕ) (i v : ℕ) → length t' ≡ length (set t i v) → length t' ≡ length t
put_size t t' i v l = l ∙ length-set t i v

-- ---- the count

-- one less than a number that is not 0
one_less : (n m : ℕ) → n < 2 ^ 64 → (n + 1) % 2 ^ 64 ≡ m + 1 → n ≡ m
one_less n m l e =
    by_lt (n + 1) (2 ^ 64) (λ h. let q = sym (mod-eq_of_lt h) ∙ e in omega arith)
    (λ h. let z : n + 1 ≡ 2 ^ 64 = omega arith in let q : 0 ≡ m + 1 = rw z at e in absurd (omega arith))

-- ---- what a list's tables say

module _ (t : Linked) (room : length t.prevs ≤ NONE) where
  -- what a member's link may be
  abbrev Place : ℕ → Type 0
  Place i = (i < length t.prevs) ⊎ (i ≡ NONE)

  module _ (xs : List ℕ) (h : Ring t xs) where
    pub ring_clear : Without NONE xs
    ring_clear = all_map (λ i. i < length t.prevs) (λ i. i ≢ NONE) (λ i q. omega arith) xs h.slots

    places : All Place xs
    places = all_map (λ i. i < length t.prevs) Place (λ i q. inl q) xs h.slots

    -- the members, and NONE
    abbrev Inside : ℕ → Type 0
    Inside i = In i xs ⊎ (i ≡ NONE)

    inside : All Inside xs
    inside = all_of Inside xs (λ x i. inl i)

    -- a slot that is no member is not what a member's link leads to
    away : (k i : ℕ) → k < length t.prevs → Without k xs → Inside i → k ≢ i
    away k i l w (inl m) q = all_in (λ x. x ≢ k) xs i w m (sym q)
    away k i l w (inr m) q = omega arith

    pub ring_distinct : Distinct xs
    ring_distinct = distinct (next t) (prev t) NONE xs NONE ring_clear h.links

    pub ring_few : length xs ≤ length t.prevs
    ring_few = distinct_few (length t.prevs) xs ring_distinct h.slots

    -- the head, and the tail
    pub ring_head : Inside t.ends.head
    ring_head = rw (look_end (cells t.nexts) t.ends.head) at (first (next t) (prev t) Inside NONE xs NONE inside (inr refl) h.links)

    pub ring_tail : t.ends.tail ≡ final NONE xs
    ring_tail = sym (look_end (cells t.prevs) t.ends.tail) ∙ last_is (next t) (prev t) NONE xs NONE h.links

  pub ring_one : (xs ys : List ℕ) → Ring t xs → Ring t ys → xs ≡ ys
  ring_one xs ys h g = links_one (next t) (prev t) NONE xs ys NONE (ring_clear xs h) (ring_clear ys g) h.links g.links

  module _ (us : List ℕ) (s : ℕ) (vs : List ℕ) (h : Ring t (us ++ s ∷ vs)) where
    pub ring_once : Without s (us ++ vs)
    ring_once = once (next t) (prev t) NONE us s vs NONE (ring_clear (us ++ s ∷ vs) h) h.links

    pub ring_slot : s < length t.prevs
    ring_slot = (all_mid (λ i. i < length t.prevs) us s vs h.slots).0

    apart : s ≢ NONE
    apart = let l = ring_slot in omega arith

    -- what the cells of a member say: its neighbours
    pub ring_sides : (Q : ℕ → Type 0) → All Q (us ++ s ∷ vs) → Q NONE → Q (cells t.prevs s) × Q (cells t.nexts s)
    ring_sides Q q z =
        let m = around (next t) (prev t) Q NONE us s vs NONE z q z h.links in
        (rw (look_at (cells t.prevs) t.ends.tail s apart) at m.2, rw (look_at (cells t.nexts) t.ends.head s apart) at m.3)

-- tables that agree at the members, and have the same ends
pub ring_frame : (t : Linked) (p' n' xs : List ℕ) → length t.prevs ≤ NONE → length p' ≡ length t.prevs → Ring t xs → All (Kept t (linked p' n' t.ends)) xs
    → Ring (linked p' n' t.ends) xs
ring_frame t p' n' xs room e h a = record {
  slots = rw e h.slots;
  links =
      links_same (next t) (prev t) (next t') (prev t') NONE xs NONE (look_end (cells n') hd ∙ sym (look_end (cells t.nexts) hd))
      (all_both (Kept t t') (λ x. x < length t.prevs) (λ k. (next t' k ≡ next t k) × (prev t' k ≡ prev t k)) same xs a h.slots)
      (look_end (cells p') tl ∙ sym (look_end (cells t.prevs) tl)) h.links;
  many = h.many;
}
  where
    t' : Linked
    t' = linked p' n' t.ends

    hd : ℕ
    hd = t.ends.head

    tl : ℕ
    tl = t.ends.tail

    same : (k : ℕ) → Kept t t' k → k < length t.prevs → (next t' k ≡ next t k) × (prev t' k ≡ prev t k)
    same k g l =
        let o : k ≢ NONE = omega arith in (
          look_at (cells n') hd k o ∙ g.1 ∙ sym (look_at (cells t.nexts) hd k o),
          look_at (cells p') tl k o ∙ g.0 ∙ sym (look_at (cells t.prevs) tl k o),
        )

-- ---- the calls

module _ (t : Linked) (s : ℕ) (pre : Fits t.prevs t.nexts s) where
  s_none : s ≢ NONE
  s_none = let l = pre.slot in let r = pre.room in omega arith

  none_s : NONE ≢ s
  none_s q = s_none (sym q)

  module _ (prevs' : List ℕ) (tail : ℕ) (p : Put (set t.prevs s NONE) t.ends.tail t.ends.head s prevs' tail)
      (count : ℕ) (more : count ≡ (t.ends.count + 1) % 2 ^ 64) where
    abbrev pushed_to : Linked
    pushed_to = linked prevs' (set t.nexts s t.ends.head) (record { head = s; tail = tail; count = count })

    size : length prevs' ≡ length t.prevs
    size = put_size t.prevs prevs' s NONE p.size

    -- the tables' own stores are the updates of the ring's law, whatever the list
    linked_so : (xs : List ℕ) → Ring t xs → (ys : List ℕ) →
        Links (upd (upd (next t) s (next t NONE)) NONE s) (upd (upd (prev t) s NONE) (next t NONE) s) NONE ys NONE →
        Links (look (cells (set t.nexts s t.ends.head)) s) (look (cells prevs') tail) NONE ys NONE
    linked_so xs h ys d =
        rw (
          look_swap (cells (set t.nexts s t.ends.head)) t.ends.head s,
          cells_upd t.nexts s t.ends.head (rw pre.even pre.slot),
          look_upd (cells t.nexts) t.ends.head s t.ends.head s_none,
          p.link (simp length-set (rw (look_end (cells t.nexts) t.ends.head) at (first (next t) (prev t) (Place t pre.room) NONE xs NONE (places t pre.room xs h) (inr refl) h.links))),
          cells_upd t.prevs s NONE pre.slot,
          look_upd (cells t.prevs) t.ends.tail s NONE s_none,
        )
        (rw (look_end (cells t.nexts) t.ends.head) at d)

    pub pushed : Pushed t s pushed_to
    pushed = record {
      sized = record { prevs_size = size; nexts_size = length-set t.nexts s t.ends.head };
      list = λ xs h f. record {
        slots = subst (λ (n : ℕ). All (λ i. i < n) (s ∷ xs)) (sym size) (pre.slot, h.slots);
        links =
            linked_so xs h (s ∷ xs)
            (push (next t) (prev t) s NONE none_s xs NONE none_s f (ring_clear t pre.room xs h) h.links);
        many = let n = h.many in let l = ring_few t pre.room xs h in let r = pre.room in more ∙ mod-eq_of_lt (omega arith) ∙ omega arith;
      };
      rest = λ xs h k l w. (
        p.rest k (away t pre.room xs h k t.ends.head l w.1 (ring_head t pre.room xs h)) ∙ get_or-set_other t.prevs s k NONE 0 (λ q. w.0 (sym q)),
        get_or-set_other t.nexts s k t.ends.head 0 (λ q. w.0 (sym q)),
      );
    }

  module _ (prevs' nexts' : List ℕ) (head tail : ℕ)
      (q : Put t.nexts t.ends.head (get_or t.prevs s 0) (get_or t.nexts s 0) nexts' head)
      (p : Put t.prevs t.ends.tail (get_or t.nexts s 0) (get_or t.prevs s 0) prevs' tail)
      (count : ℕ) (fewer : (count + 1) % 2 ^ 64 ≡ t.ends.count) (small : count < 2 ^ 64) where
    pub unlinked : Unlinked t s (linked prevs' nexts' (record { head = head; tail = tail; count = count }))
    unlinked = record {
      sized = record { prevs_size = p.size; nexts_size = q.size };
      list = λ us vs h.
          let m = ring_sides t pre.room us s vs h (Place t pre.room) (places t pre.room (us ++ s ∷ vs) h) (inr refl) in
          let d = remove (next t) (prev t) NONE us s vs none_s (ring_clear t pre.room (us ++ s ∷ vs) h) h.links in
          record {
            slots = rw p.size (all_mid (λ i. i < length t.prevs) us s vs h.slots).1;
            links =
                rw (q.link (rw pre.even m.0), p.link m.1)
                (rw (look_at (cells t.prevs) t.ends.tail s s_none, look_at (cells t.nexts) t.ends.head s s_none) at d);
            many =
                let n = h.many in
                one_less count (length (us ++ vs)) small (fewer ∙ omega (arith, length-append us vs, length-append us (s ∷ vs)));
          };
      rest = λ us vs h k l w.
          let zs : List ℕ = us ++ s ∷ vs in
          let m = ring_sides t pre.room us s vs h (Inside t pre.room zs h) (inside t pre.room zs h) (inr refl) in
          (p.rest k (away t pre.room zs h k (get_or t.nexts s 0) l w m.1), q.rest k (away t pre.room zs h k (get_or t.prevs s 0) l w m.0));
    }

  pub fits_still : (t' : Linked) → Unlinked t s t' → Fits t'.prevs t'.nexts s
  fits_still t' u =
      let a = u.sized.prevs_size in let b = u.sized.nexts_size in let e = pre.even in let r = pre.room in let l = pre.slot in
      record { even = omega arith; room = omega arith; slot = omega arith }

  pub moved : (t' t'' : Linked) → Unlinked t s t' → Pushed t' s t'' → Moved t s t''
  moved t' t'' u d = record {
    sized = record { prevs_size = d.sized.prevs_size ∙ u.sized.prevs_size; nexts_size = d.sized.nexts_size ∙ u.sized.nexts_size };
    list = λ us vs h. d.list (us ++ vs) (u.list us vs h) (ring_once t pre.room us s vs h);
    rest = λ us vs h k l w.
        let m = all_mid (λ x. x ≢ k) us s vs w in
        let a = u.rest us vs h k l w in
        let b = d.rest (us ++ vs) (u.list us vs h) k (rw u.sized.prevs_size l) m in
        (b.0 ∙ a.0, b.1 ∙ a.1);
  }
