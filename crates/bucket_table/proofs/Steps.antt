-- What the stores of each call do to the rows: the ring's laws at the words of the records, the arena's at the spare ones, and the rest stays.
use mathlib.Core.Path.{◌≡◌, refl, sym, ap, ◌∙◌}
use mathlib.Core.Logic.{◌≢◌, inr}
use mathlib.Core.List.{List, ◌∷◌, ◌++◌}
use Prim.Native.Nat.{ℕ, ◌*◌, ◌<◌}
use native.Mathlib.Omega.{arith}
use lib.ListN.{length}
use Rattle.numbers.specs.Marks.{NONE}
use Rattle.lists.specs.Lists.{Without, final}
use Rattle.lists.proofs.Members.{all_map, all_both, all_put}
use Rattle.links.specs.Ring.{Links, upd, look}
use Rattle.links.specs.declared.Ends.{Ends}
use Rattle.links.proofs.Functions.{upd_same, upd_other, look_at, look_end, look_upd}
use Rattle.links.proofs.Rings.{around, remove, insert}
use Rattle.slot_arena.specs.Arena.{Uses, Takes, Releases, Filled}
use Rattle.slot_arena.specs.declared.Order.{Order}
use Rattle.numbers.specs.declared.Slot.{Slot}
use Rattle.slot_arena.proofs.Uses.{uses_take, uses_release, uses_filled}
use Rattle.bucket_table.specs.declared.Buckets.{Buckets}
use Rattle.bucket_table.specs.Records.{WORDS, word, frequency, lower, higher, head, tail, count, up, down, Spot, Row, row, empty, nums, Written, RecordsHold, RowsRise}
use Rattle.bucket_table.specs.Calls.{Stored, Linked, SetEnds, SetOwner, Raises, Making, Drops, MakesRecord, RecordsReset, RecordsFilled}
use Rattle.bucket_table.proofs.Rows.{nums_append, all_nums, rising_around, rising_out, rising_in, clear, spots, ring_parts, above_spot, row_some, row_once, rows_others, row_written, others_written}

-- a function at one place, by an equation of functions
at : (f g : ℕ → ℕ) (k : ℕ) → f ≡ g → f k ≡ g k
at f g k e = ap (λ (h : ℕ → ℕ). h k) e

-- record k says the same in both
abbrev Same : List ℕ → List ℕ → ℕ → Type 0
Same b b' k = (frequency b' k ≡ frequency b k) × (head b' k ≡ head b k) × (tail b' k ≡ tail b k) × (count b' k ≡ count b k)

-- so all records do if only links and owners change
same_words : (b b' : List ℕ) → ((u : ℕ) → (u < WORDS) × (u ≢ 1) × (u ≢ 2) × (u ≢ 6) → word u b' ≡ word u b) → (k : ℕ) → Same b b' k
same_words b b' e k = (at _ _ k (e 0 (omega arith)), at _ _ k (e 3 (omega arith)), at _ _ k (e 4 (omega arith)), at _ _ k (e 5 (omega arith)))

-- a row whose record says the same
still : (b b' : List ℕ) (w : Row) → Same b b' w.num → Written b w → Written b' w
still b b' w s m = record { freq_is = s.0 ∙ m.freq_is; head_is = s.1 ∙ m.head_is; tail_is = s.2 ∙ m.tail_is; count_is = s.3 ∙ m.count_is }

-- ---- a row that changes in its place

module _ (b b' sp : List ℕ) (s : Buckets) (us : List Row) (r f : ℕ) (d : Ends) (vs : List Row) (h : RecordsHold b sp s (us ++ row r f d ∷ vs)) where
  rewritten : (g : ℕ) (e : Ends) → length b' ≡ length b → lower b' ≡ lower b → higher b' ≡ higher b
      → ((k : ℕ) → k ≢ r → Same b b' k)
      → Written b' (row r g e) → RowsRise 0 (us ++ row r g e ∷ vs) → RecordsHold b' sp s (us ++ row r g e ∷ vs)
  rewritten g e z lo hi kept mine rising =
      let en : nums (us ++ row r g e ∷ vs) ≡ nums (us ++ row r f d ∷ vs) = nums_append us (row r g e ∷ vs) ∙ sym (nums_append us (row r f d ∷ vs)) in
      record {
        size = z ∙ h.size;
        ring = rw (en, lo, hi) h.ring;
        uses = rw en h.uses;
        each =
            all_put (Written b') us (row r g e) vs mine
            (all_both (λ w. w.num ≢ r) (Written b) (Written b')
            (λ w ne m. still b b' w (kept w.num ne) m) (us ++ vs)
            (rows_others b sp s us (row r f d) vs h) (others_written b sp s us (row r f d) vs h));
        rising = rising;
      }

pub ends_set : (b : List ℕ) (r : ℕ) (e : Ends) (b₁ b₂ b' : List ℕ)
    → Stored 3 b r e.head b₁ → Stored 4 b₁ r e.tail b₂ → Stored 5 b₂ r e.count b' → SetEnds b r e b'
ends_set b r e b₁ b₂ b' s₃ s₄ s₅ = record {
  size = size;
  heads = heads;
  tails = tails;
  counts = counts;
  rest = same;
  owners = same 6 (omega arith);
  rows = λ sp s us f d vs h.
      let m = row_written b sp s us (row r f d) vs h in
      let ri = rising_around 0 us (row r f d) vs h.rising in
      rewritten b b' sp s us r f d vs h f e size (same 1 (omega arith)) (same 2 (omega arith))
      (λ k ne. (
        at _ _ k (same 0 (omega arith)),
        at _ _ k heads ∙ upd_other (head b) r e.head k ne,
        at _ _ k tails ∙ upd_other (tail b) r e.tail k ne,
        at _ _ k counts ∙ upd_other (count b) r e.count k ne,
      ))
      (record {
        freq_is = at _ _ r (same 0 (omega arith)) ∙ m.freq_is;
        head_is = at _ _ r heads ∙ upd_same (head b) r e.head;
        tail_is = at _ _ r tails ∙ upd_same (tail b) r e.tail;
        count_is = at _ _ r counts ∙ upd_same (count b) r e.count;
      })
      (rising_in 0 us (row r f e) vs ri.1 ri.2 ri.0 ri.3 (rising_out 0 us (row r f d) vs h.rising));
}
  where
    size : length b' ≡ length b
    size = s₅.size ∙ s₄.size ∙ s₃.size

    same : (u : ℕ) → (u < WORDS) × (u ≢ 3) × (u ≢ 4) × (u ≢ 5) → word u b' ≡ word u b
    same u h = s₅.rest u (h.0, h.3) ∙ s₄.rest u (h.0, h.2) ∙ s₃.rest u (h.0, h.1)

    heads : head b' ≡ upd (head b) r e.head
    heads = s₅.rest 3 (omega arith) ∙ s₄.rest 3 (omega arith) ∙ s₃.made

    tails : tail b' ≡ upd (tail b) r e.tail
    tails = s₅.rest 4 (omega arith) ∙ s₄.made ∙ ap (λ (g : ℕ → ℕ). upd g r e.tail) (s₃.rest 4 (omega arith))

    counts : count b' ≡ upd (count b) r e.count
    counts = s₅.made ∙ ap (λ (g : ℕ → ℕ). upd g r e.count) (s₄.rest 5 (omega arith) ∙ s₃.rest 5 (omega arith))

pub owner_set : (b : List ℕ) (x r : ℕ) (b' : List ℕ) → Stored 6 b x r b' → SetOwner b x r b'
owner_set b x r b' d = record {
  size = d.size;
  owners = d.made;
  rows = λ sp s ws h. record {
    size = d.size ∙ h.size;
    ring = rw (d.rest 1 (omega arith), d.rest 2 (omega arith)) h.ring;
    uses = h.uses;
    each = all_map (Written b) (Written b') (λ w. still b b' w (same_words b b' (λ u n. d.rest u (n.0, n.3)) w.num)) ws h.each;
    rising = h.rising;
  };
}

pub raised_to : (b : List ℕ) (r g : ℕ) (b' : List ℕ) → Stored 0 b r g b' → Raises b r g b'
raised_to b r g b' d = record {
  size = d.size;
  owners = d.rest 6 (omega arith);
  rows = λ sp s us f e vs l c above h.
      let m = row_written b sp s us (row r f e) vs h in
      let ri = rising_around 0 us (row r f e) vs h.rising in
      let low = ri.1 in
      rewritten b b' sp s us r f e vs h g e d.size (d.rest 1 (omega arith)) (d.rest 2 (omega arith))
      (λ k ne. (
        at _ _ k d.made ∙ upd_other (frequency b) r g k ne,
        at _ _ k (d.rest 3 (omega arith)),
        at _ _ k (d.rest 4 (omega arith)),
        at _ _ k (d.rest 5 (omega arith)),
      ))
      (record {
        freq_is = at _ _ r d.made ∙ upd_same (frequency b) r g;
        head_is = at _ _ r (d.rest 3 (omega arith)) ∙ m.head_is;
        tail_is = at _ _ r (d.rest 4 (omega arith)) ∙ m.tail_is;
        count_is = at _ _ r (d.rest 5 (omega arith)) ∙ m.count_is;
      })
      (rising_in 0 us (row r g e) vs (omega arith) c (all_map (λ u. u.freq < f) (λ u. u.freq < g) (λ u q. omega arith) us ri.0) above
      (rising_out 0 us (row r f e) vs h.rising));
}

-- ---- `make`

module _ (b sp : List ℕ) (s : Buckets) (at₀ g : ℕ) (pre : Making b sp s at₀) (n : ℕ) (en : n ≡ up b s at₀) (sp' : List ℕ) (t : Slot) (o : Order) (tk : Takes sp s.spare sp' t o)
    (b₁ b₂ b' : List ℕ) (bot top : ℕ) (fl : RecordsFilled b t.0 g at₀ n b₁) (l₂ : Linked 2 b₁ s.bottom at₀ t.0 b₂ bot) (l₁ : Linked 1 b₂ s.top n t.0 b' top) where
  abbrev q : ℕ
  q = t.0

  abbrev s' : Buckets
  s' = record { bottom = bot; top = top; spare = o }

  q_none : q ≢ NONE
  q_none = let e = tk.slot in let l = pre.room in let m = pre.limit in omega arith

  sizes : length b' ≡ length b
  sizes = l₁.size ∙ l₂.size ∙ fl.size

  -- the words that are no links
  rest : (u : ℕ) → (u < WORDS) × (u ≢ 1) × (u ≢ 2) → word u b' ≡ word u b₁
  rest u h = l₁.rest u (h.0, h.1) ∙ l₂.rest u (h.0, h.2)

  ups : Spot b at₀ → up b' s' ≡ upd (upd (up b s) q n) at₀ q
  ups i =
      rw (l₁.rest 2 (omega arith))
      (l₂.made (rw fl.size i) ∙ ap (λ (h : ℕ → ℕ). upd h at₀ q) (rw fl.highers (look_upd (higher b) s.bottom q n q_none)))

  downs : Spot b n → down b' s' ≡ upd (upd (down b s) q at₀) n q
  downs i =
      l₁.made (rw (l₂.size, fl.size) i)
      ∙ ap (λ (h : ℕ → ℕ). upd h n q) (rw (l₂.rest 1 (omega arith), fl.lowers) (look_upd (lower b) s.top q at₀ q_none))

  freqs : frequency b' ≡ upd (frequency b) q g
  freqs = rest 0 (omega arith) ∙ fl.frequencies

  heads : head b' ≡ upd (head b) q NONE
  heads = rest 3 (omega arith) ∙ fl.heads

  tails : tail b' ≡ upd (tail b) q NONE
  tails = rest 4 (omega arith) ∙ fl.tails

  counts : count b' ≡ upd (count b) q 0
  counts = rest 5 (omega arith) ∙ fl.counts

  kept : (w : Row) → w.num ≢ q → Written b w → Written b' w
  kept w ne m =
      still b b' w (
        at _ _ w.num freqs ∙ upd_other (frequency b) q g w.num ne,
        at _ _ w.num heads ∙ upd_other (head b) q NONE w.num ne,
        at _ _ w.num tails ∙ upd_other (tail b) q NONE w.num ne,
        at _ _ w.num counts ∙ upd_other (count b) q 0 w.num ne,
      ) m

  mine : Written b' (row q g empty)
  mine = record {
    freq_is = at _ _ q freqs ∙ upd_same (frequency b) q g;
    head_is = at _ _ q heads ∙ upd_same (head b) q NONE;
    tail_is = at _ _ q tails ∙ upd_same (tail b) q NONE;
    count_is = at _ _ q counts ∙ upd_same (count b) q 0;
  }

  module _ (us vs : List Row) (ea : at₀ ≡ final NONE (nums us)) (few : length (nums (us ++ vs)) < length sp) (h : RecordsHold b sp s (us ++ vs)) where
    used : Uses sp' o (nums us ++ q ∷ nums vs) × Without q (nums us ++ nums vs)
    used = uses_take sp s.spare sp' t o (nums us) (nums vs) tk (rw (nums_append us vs) at h.uses) (rw (nums_append us vs) at few)

    n_spot : Spot b n
    n_spot = rw (en, ea) (above_spot b sp s us vs h)

    none_q : NONE ≢ q
    none_q e = q_none (sym e)

    ring : Links (up b' s') (down b' s') NONE (nums us ++ q ∷ nums vs) NONE
    ring =
        rw (ups pre.place, downs n_spot, en, ea)
        (insert (up b s) (down b s) q NONE (nums us) (nums vs) NONE none_q none_q used.1 (rw (nums_append us vs) at (clear b sp s (us ++ vs) h)) (ring_parts b sp s us vs h))

    made_rows : RowsRise 0 (us ++ row q g empty ∷ vs) → RecordsHold b' sp' s' (us ++ row q g empty ∷ vs)
    made_rows ri = record {
      size = sizes ∙ h.size ∙ ap (λ (k : ℕ). k * WORDS) (sym tk.size);
      ring = rw (nums_append us (row q g empty ∷ vs)) ring;
      uses = rw (nums_append us (row q g empty ∷ vs)) used.0;
      each =
          all_put (Written b') us (row q g empty) vs mine
          (all_both (λ w. w.num ≢ q) (Written b) (Written b') kept (us ++ vs) (all_nums (λ k. k ≢ q) (us ++ vs) (rw (nums_append us vs) used.1)) h.each);
      rising = ri;
    }

  pub makes : MakesRecord b sp s at₀ g b' sp' q s'
  makes = record {
    number_in = let e = tk.slot in let l = pre.room in let z = pre.size in let w = sizes in omega arith;
    size = sizes;
    spares_size = tk.size;
    owners = rest 6 (omega arith) ∙ fl.owners;
    rows = λ us vs ea few one c hu hv h. made_rows us vs ea few h (rising_in 0 us (row q g empty) vs (omega arith) c hu hv h.rising);
  }

-- ---- `remove`

module _ (b sp : List ℕ) (s : Buckets) (r lo hi : ℕ) (elo : lo ≡ lower b r) (ehi : hi ≡ higher b r) (b₁ b' sp' : List ℕ) (bot top : ℕ) (o : Order)
    (l₂ : Linked 2 b s.bottom lo hi b₁ bot) (l₁ : Linked 1 b₁ s.top hi lo b' top) (rl : Releases sp s.spare r sp' o) where
  abbrev d' : Buckets
  d' = record { bottom = bot; top = top; spare = o }

  others : (u : ℕ) → (u < WORDS) × (u ≢ 1) × (u ≢ 2) → word u b' ≡ word u b
  others u h = l₁.rest u (h.0, h.1) ∙ l₂.rest u (h.0, h.2)

  module _ (us : List Row) (f : ℕ) (e : Ends) (vs : List Row) (h : RecordsHold b sp s (us ++ row r f e ∷ vs)) where
    r_some : r ≢ NONE
    r_some = row_some b sp s us (row r f e) vs h

    low_is : down b s r ≡ lo
    low_is = look_at (lower b) s.top r r_some ∙ sym elo

    high_is : up b s r ≡ hi
    high_is = look_at (higher b) s.bottom r r_some ∙ sym ehi

    ring₀ : Links (up b s) (down b s) NONE (nums us ++ r ∷ nums vs) NONE
    ring₀ = ring_parts b sp s us (row r f e ∷ vs) h

    sides : Spot b lo × Spot b hi
    sides =
        let m = around (up b s) (down b s) (Spot b) NONE (nums us) r (nums vs) NONE (inr refl) (rw (nums_append us (row r f e ∷ vs)) at (spots b sp s (us ++ row r f e ∷ vs) h)) (inr refl) ring₀ in
        (rw low_is at m.2, rw high_is at m.3)

    down_is : down b' d' ≡ upd (down b s) hi lo
    down_is = l₁.made (rw l₂.size sides.1) ∙ ap (λ (g : ℕ → ℕ). upd (look g s.top) hi lo) (l₂.rest 1 (omega arith))

    up_is : up b' d' ≡ upd (up b s) lo hi
    up_is = rw (l₁.rest 2 (omega arith)) (l₂.made sides.0)

    dropped_rows : RecordsHold b' sp' d' (us ++ vs)
    dropped_rows =
        let no : NONE ≢ r = λ q. r_some (sym q) in
        record {
          size = l₁.size ∙ l₂.size ∙ h.size ∙ ap (λ (k : ℕ). k * WORDS) (sym rl.size);
          ring =
              rw (nums_append us vs, up_is, down_is)
              (rw (low_is, high_is) at (remove (up b s) (down b s) NONE (nums us) r (nums vs) no (rw (nums_append us (row r f e ∷ vs)) at (clear b sp s (us ++ row r f e ∷ vs) h)) ring₀));
          uses =
              rw (nums_append us vs)
              (uses_release sp s.spare r sp' o (nums us) (nums vs) rl (rw (nums_append us (row r f e ∷ vs)) at h.uses) (row_once b sp s us (row r f e) vs h));
          each =
              all_map (Written b) (Written b') (λ w. still b b' w (same_words b b' (λ u n. others u (n.0, n.1, n.2)) w.num))
              (us ++ vs) (others_written b sp s us (row r f e) vs h);
          rising = rising_out 0 us (row r f e) vs h.rising;
        }

  pub drops : Drops b sp s r b' sp' d'
  drops = record { size = l₁.size ∙ l₂.size; spares_size = rl.size; owners = others 6 (omega arith); rows = dropped_rows }

-- ---- `reset`

pub resets : (sp sp' : List ℕ) (o : Order) → Filled sp sp' o → RecordsReset sp sp' (record { bottom = NONE; top = NONE; spare = o })
resets sp sp' o f = record {
  size = f.size;
  rows = λ b z. record {
    size = z ∙ ap (λ (k : ℕ). k * WORDS) (sym f.size);
    ring = (look_end (higher b) NONE, look_end (lower b) NONE);
    uses = uses_filled sp sp' o f;
    each = tt;
    rising = tt;
  };
}
