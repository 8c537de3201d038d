-- The walk of one list. The slots passed are the beginning of every list that the record may have, and each of them was tested; `left` says
-- how many may still come.
use mathlib.Core.Path.{◌≡◌, sym, ap, ◌∙◌, subst}
use mathlib.Core.Logic.{◌≢◌}
use mathlib.Core.List.{List, [], ◌∷◌, ◌++◌}
use Prim.Native.Nat.{ℕ, ◌+◌, ◌<◌, ◌≤◌, ◌-◌}
use native.Mathlib.Omega.{arith}
use lib.ListN.{length, get_or, length-append}
use Rattle.std.specs.Prelude.{Some, None}
use Rattle.numbers.specs.Marks.{NONE}
use Rattle.lists.specs.Lists.{All, final}
use Rattle.lists.proofs.Members.{all_map, all_both, all_mid, all_append}
use Rattle.links.specs.Linked.{next, prev, Linked, linked}
use Rattle.links.proofs.Functions.{look_end, look_at}
use Rattle.links.proofs.Lists.{ring_clear}
use Rattle.links.proofs.Walks.{Walk, walk_start, walk_on, walk_next, walk_end, walk_whole}
use Rattle.bucket_table.specs.Records.{frequency, head, tail, count, owner, row_of}
use Rattle.levels.specs.Check.{SlotOk, ListWalk, LevelsSized, ListedSo}
use Rattle.levels.proofs.Lines.{final_slot}

-- ---- the walk

module _ (f p n b : List ℕ) (r : ℕ) where
  -- the links of the record's list
  abbrev Here : Linked
  Here = linked p n (row_of b r).ends

  -- what is tested of a slot, but for its link
  abbrev Fine : ℕ → Type 0
  Fine x = (x < length p) × (get_or f x 0 ≡ frequency b r) × (owner b x ≡ r)

  pub record Along (left at x m : ℕ) : Type 0 where
    pub passed : List ℕ
    pub walk : Walk (next Here) (prev Here) passed at x
    pub fine : All Fine passed
    pub spent : m + length passed ≡ left

  pub along_start : (left hd : ℕ) → hd ≡ head b r → Along left NONE hd left
  along_start left hd e = record {
    passed = [];
    walk = subst (Walk (next Here) (prev Here) [] NONE) (look_end (λ k. get_or n k 0) (head b r) ∙ sym e) (walk_start (next Here) (prev Here));
    fine = tt;
    spent = omega arith;
  }

  module _ (z : LevelsSized f p n b) (left at x m : ℕ) (w : Along left at x m) where
    room : length p ≤ NONE
    room = let a = z.even.limit in let c = z.even.prevs_size in omega arith

    fine_of : (xs : List ℕ) → ListedSo f p n b r xs → All Fine xs
    fine_of xs h =
        all_both (λ y. y < length p) (λ y. (get_or f y 0 ≡ frequency b r) × (owner b y ≡ r)) Fine (λ y l o. (l, o.0, o.1)) xs h.held.ring.slots h.held.own

    -- what comes next in a list that there may be
    next_ok : x ≢ NONE → (xs : List ℕ) → ListedSo f p n b r xs → SlotOk f p b r (frequency b r) at x × (length w.passed + 1 ≤ length xs)
    next_ok ne xs h =
        let q = walk_next (next Here) (prev Here) w.passed at x w.walk ne xs (ring_clear Here room xs h.held.ring) h.held.ring.links in
        let o = (all_mid Fine w.passed x q.0 (subst (All Fine) q.1 (fine_of xs h))).0 in
        let l = o.0 in let e = z.even.prevs_size in let c = ap length q.1 in (
          record { slot = omega arith; back = sym (look_at (λ k. get_or p k 0) (tail b r) x ne) ∙ q.2; freq_is = o.1; own_is = o.2 },
          omega (arith, length-append w.passed (x ∷ q.0)),
        )

    pub list_short : m ≡ 0 → x ≢ NONE → ListWalk f p n b r left None
    list_short e ne = λ xs h l. let a = (next_ok ne xs h).1 in let c = w.spent in omega arith

    pub list_bad : x ≢ NONE → (g : ℕ) → g ≡ frequency b r → (SlotOk f p b r g at x → ⊥) → ListWalk f p n b r left None
    list_bad ne g eg bad = λ xs h l. bad (rw eg (next_ok ne xs h).0)

    pub along_on : (g : ℕ) → g ≡ frequency b r → SlotOk f p b r g at x → m ≢ 0 → Along left x (get_or n x 0) (m - 1)
    along_on g eg k nz =
        let l = k.slot in let e = z.even.prevs_size in let a = room in
        let ne : x ≢ NONE = omega arith in let c = w.spent in
        record {
          passed = w.passed ++ x ∷ [];
          walk = subst (Walk (next Here) (prev Here) (w.passed ++ x ∷ []) x) (look_at (λ k. get_or n k 0) (head b r) x ne) (walk_on (next Here) (prev Here) w.passed at x w.walk ne (look_at (λ k. get_or p k 0) (tail b r) x ne ∙ k.back));
          fine = all_append Fine w.passed (x ∷ []) w.fine ((omega arith, k.freq_is ∙ eg, k.own_is), tt);
          spent = omega (arith, length-append w.passed (x ∷ []));
        }

    whole : x ≡ NONE → (xs : List ℕ) → ListedSo f p n b r xs → (xs ≡ w.passed) × (prev Here NONE ≡ at)
    whole e xs h = walk_whole (next Here) (prev Here) w.passed at x w.walk e xs (ring_clear Here room xs h.held.ring) h.held.ring.links

    pub list_none : x ≡ NONE → at ≡ NONE → ListWalk f p n b r left None
    list_none e ea = λ xs h l.
        final_slot (length p) room w.passed (all_map Fine (λ i. i < length p) (λ i o. o.0) w.passed w.fine)
        (subst (λ (ys : List ℕ). 0 < length ys) (whole e xs h).0 h.some) (sym w.walk.last ∙ ea)

    -- a list that there may be was passed whole, and has as many slots as were taken from `left`
    pub list_miscounted : x ≡ NONE → (ct : ℕ) → ct ≡ count b r → ct ≢ left - m → ListWalk f p n b r left None
    list_miscounted e ct ec ne = λ xs h l.
        let c = w.spent in let k = ap length (whole e xs h).0 in let q = h.held.ring.many in ne (ec ∙ q ∙ omega arith)

    -- and the last of them is its tail
    pub list_other_tail : x ≡ NONE → (tl : ℕ) → tl ≡ tail b r → tl ≢ at → ListWalk f p n b r left None
    list_other_tail e tl et ne = λ xs h l. ne (et ∙ sym (look_end (λ k. get_or p k 0) (tail b r)) ∙ (whole e xs h).1)

    pub list_done : x ≡ NONE → at ≢ NONE → (ct : ℕ) → ct ≡ count b r → ct ≡ left - m → (tl : ℕ) → tl ≡ tail b r → tl ≡ at
        → ListWalk f p n b r left (Some m)
    list_done e na ct ec em tl et q =
        let c = w.spent in (
          w.passed,
          record {
            held = record {
              ring = record {
                slots = all_map Fine (λ i. i < length p) (λ i o. o.0) w.passed w.fine;
                links = walk_end (next Here) (prev Here) w.passed at x w.walk e (look_end (λ k. get_or p k 0) (tail b r) ∙ sym et ∙ q);
                many = sym ec ∙ em ∙ omega arith;
              };
              own = all_map Fine (λ y. (get_or f y 0 ≡ frequency b r) × (owner b y ≡ r)) (λ y o. (o.1, o.2)) w.passed w.fine;
            };
            some = go w.passed w.walk.last;
          },
          omega arith,
        )
      where
        go : (ys : List ℕ) → at ≡ final NONE ys → 0 < length ys
        go [] q = absurd (na q)
        go (y ∷ ys) q = omega arith
