-- A slot leaves its level. Its line keeps the other slots, or the record goes by the law of the bucket table; the slot is marked free.
use mathlib.Core.Path.{◌≡◌, refl, sym, ap, ◌∙◌, subst}
use mathlib.Core.Logic.{◌≢◌}
use mathlib.Core.List.{List, [], ◌∷◌, ◌++◌, append_assoc, append-nil}
use Prim.Native.Nat.{ℕ, ◌<◌, ◌≤◌}
use native.Mathlib.Omega.{arith}
use lib.ListN.{length, get_or}
use Rattle.numbers.specs.Marks.{NONE}
use Rattle.lists.specs.Lists.{All, Without, final}
use Rattle.lists.proofs.Tests.{by_eq}
use Rattle.lists.proofs.Members.{all_map, all_both, all_mid, all_put, all_left, all_right, all_append, final_append}
use Rattle.links.specs.Linked.{Ring, Kept, Fits, Unlinked, linked}
use Rattle.links.specs.declared.Ends.{Ends}
use Rattle.links.proofs.Functions.{look_end, upd_same, upd_other}
use Rattle.links.proofs.Lists.{ring_once, ring_frame}
use Rattle.bucket_table.specs.declared.Buckets.{Buckets}
use Rattle.bucket_table.specs.Records.{Row, row, nums, lower, owner, InTable, EndsAt, RecordsHold}
use Rattle.bucket_table.specs.Calls.{SetEnds, Dropping, Drops}
use Rattle.bucket_table.proofs.Rows.{nums_append, row_used, below_row}
use Rattle.levels.specs.Levels.{Level, level, Nowhere, keep}
use Rattle.levels.specs.Held.{Tabs, tabs, Line, line, rows, Missing, Free, Even, Lines, Some, Held, Parted}
use Rattle.levels.specs.Calls.{Frees, SlotBound, LevelLeaves}
use Rattle.levels.proofs.Lines.{rows_append, view_append, all_view, LineIn, lines_room, slot_in, records_mid, line_in, number_in, written, only_here, Split, member_own, split_at, Alike, Resized, even_still, others_still, free_still}
use Rattle.levels.proofs.Steps.{at, ends_are}

-- ---- what a bound slot's tables allow

module _ (t : Tabs) (s : Buckets) (x : ℕ) (b : SlotBound t s x) where
  -- its line
  pub bound_split : (r : ℕ) → r ≡ owner t.buckets x → Split t s r b.us b.freq (b.xs ++ x ∷ b.ys) b.vs
  bound_split r e = split_at t s b.us b.freq b.xs x b.ys b.vs r e b.held

  pub bound_fits : Fits t.prevs t.nexts x × (x < length t.freqs)
  bound_fits =
      let k = bound_split (owner t.buckets x) refl in
      let l = (member_own t s b.us b.freq b.xs x b.ys b.vs (owner t.buckets x) k).0 in
      let e = k.rep.even in let e₁ = e.limit in let e₂ = e.prevs_size in let e₃ = e.nexts_size in
      (record { even = omega arith; room = omega arith; slot = omega arith }, l)

  pub bound_slot_in : InTable t.buckets x
  bound_slot_in = slot_in t s b.held.lines b.held.rep x bound_fits.1

  module _ (r : ℕ) (er : r ≡ owner t.buckets x) where
    pub bound_records : RecordsHold t.buckets t.spares s (rows (bound_split r er).lower ++ row r b.freq (bound_split r er).ends ∷ rows (bound_split r er).upper)
    bound_records = let k = bound_split r er in records_mid t s k.lower (line (row r b.freq k.ends) (b.xs ++ x ∷ b.ys)) k.upper k.rep

    pub bound_record_in : InTable t.buckets r
    bound_record_in = let k = bound_split r er in number_in t s k.lower (line (row r b.freq k.ends) (b.xs ++ x ∷ b.ys)) k.upper k.rep

    pub bound_dropping : (b' : List ℕ) → length b' ≡ length t.buckets → Dropping b' t.spares r
    bound_dropping b' e = let k = bound_split r er in record {
      size = e ∙ bound_records.size;
      slot = (row_used t.buckets t.spares s (rows k.lower) (row r b.freq k.ends) (rows k.upper) bound_records).0;
    }

-- ---- `leave`

-- the head of an empty list, and of one that is not
head_empty : (p n : List ℕ) (e : Ends) → Ring (linked p n e) [] → e.head ≡ NONE
head_empty p n e h = sym (look_end (λ k. get_or n k 0) e.head) ∙ h.links.0

head_some : (p n : List ℕ) (e : Ends) (z : ℕ) (zs : List ℕ) → length p ≤ NONE → Ring (linked p n e) (z ∷ zs) → e.head ≢ NONE
head_some p n e z zs l h q =
    let i = h.slots.0 in
    let w : z ≡ NONE = sym h.links.0 ∙ look_end (λ k. get_or n k 0) e.head ∙ q in
    omega arith

-- a list with a head has slots, and one without has none
has_some : (p n : List ℕ) (e : Ends) (zs : List ℕ) → Ring (linked p n e) zs → e.head ≢ NONE → 0 < length zs
has_some p n e [] h ne = absurd (ne (head_empty p n e h))
has_some p n e (z ∷ zs) h ne = omega arith

has_none : (p n : List ℕ) (e : Ends) (zs : List ℕ) → length p ≤ NONE → Ring (linked p n e) zs → e.head ≡ NONE → zs ≡ []
has_none p n e [] l h q = refl
has_none p n e (z ∷ zs) l h q = absurd (head_some p n e z zs l h q)

-- a level that stays while it has slots
keep_some : (f : ℕ) (zs : List ℕ) → 0 < length zs → keep f zs [] ≡ level f zs ∷ []
keep_some f [] l = absurd (omega arith)
keep_some f (z ∷ zs) l = refl

keep_away : (x f : ℕ) (zs : List ℕ) → Without x zs → Nowhere x (keep f zs [])
keep_away x f [] w = tt
keep_away x f (z ∷ zs) w = (w, tt)

module _ (f p n b sp : List ℕ) (s : Buckets) (r x : ℕ) (er : r ≡ owner b x) (e₀ : Ends) (read : EndsAt b r e₀) (p₁ n₁ : List ℕ) (d : Ends)
    (un : Unlinked (linked p n e₀) x (linked p₁ n₁ d)) (f' p' n' : List ℕ) (fr : Frees f p₁ n₁ x f' p' n') where
  abbrev t₀ : Tabs
  t₀ = tabs f p n b sp

  module _ (us : List Line) (g : ℕ) (e : Ends) (xs ys : List ℕ) (vs : List Line) (h : Lines t₀ s (us ++ line (row r g e) (xs ++ x ∷ ys) ∷ vs)) (b' sp' : List ℕ) (owners : owner b' ≡ owner b) where
    abbrev t₁ : Tabs
    t₁ = tabs f' p' n' b' sp'

    abbrev was : Line
    was = line (row r g e) (xs ++ x ∷ ys)

    unlink : Unlinked (linked p n e) x (linked p₁ n₁ d)
    unlink = subst (λ (c : Ends). Unlinked (linked p n c) x (linked p₁ n₁ d)) (ends_are b (row r g e) e₀ (written t₀ s us was vs h) read) un

    big : length p ≤ NONE
    big = lines_room t₀ s (us ++ was ∷ vs) h

    ring₀ : Ring (linked p n e) (xs ++ x ∷ ys)
    ring₀ = (line_in t₀ s us was vs h).ring

    -- x is in no line any more
    pub left_line : Without x (xs ++ ys)
    left_line = ring_once (linked p n e) big xs x ys ring₀

    pub left_others : Missing x (us ++ vs)
    left_others = only_here t₀ s us was vs h x (all_mid (λ y. (get_or f y 0 ≡ g) × (owner b y ≡ r)) xs x ys (line_in t₀ s us was vs h).own).0.1

    sizes : Resized t₀ t₁
    sizes = record {
      freqs_size = fr.sizes.0;
      prevs_size = fr.sizes.1 ∙ unlink.sized.prevs_size;
      nexts_size = fr.sizes.2 ∙ unlink.sized.nexts_size;
    }

    pub left_even : Even f' p' n'
    left_even = even_still t₀ t₁ sizes h.even

    alike : (k : ℕ) → k < length f → Without k (xs ++ x ∷ ys) → k ≢ x → Alike t₀ t₁ k
    alike k l w ne =
        let q = h.even.prevs_size in
        let c = unlink.rest xs ys ring₀ k (omega arith) w in
        record {
          freq_same = at _ _ k fr.freqs_are ∙ upd_other (λ i. get_or f i 0) x 0 k ne;
          prev_same = at _ _ k fr.prevs_are ∙ upd_other (λ i. get_or p₁ i 0) x x k ne ∙ c.0;
          next_same = at _ _ k fr.nexts_are ∙ upd_other (λ i. get_or n₁ i 0) x x k ne ∙ c.1;
          own_same = at _ _ k owners;
        }

    pub left_each : All (LineIn t₁) (us ++ vs)
    left_each = others_still t₀ t₁ s us was vs h x left_others sizes alike

    x_free : Free f' p' n' x
    x_free = record {
      next_own = at _ _ x fr.nexts_are ∙ upd_same (λ i. get_or n₁ i 0) x x;
      prev_own = at _ _ x fr.prevs_are ∙ upd_same (λ i. get_or p₁ i 0) x x;
      freq_zero = at _ _ x fr.freqs_are ∙ upd_same (λ i. get_or f i 0) x 0;
    }

    pub left_free : (k : ℕ) → k < length f' → Missing k (us ++ vs) → Without k (xs ++ ys) → Free f' p' n' k
    left_free k l m w =
        by_eq k x (λ q. subst (Free f' p' n') (sym q) x_free)
        (λ ne. free_still t₀ t₁ s us was vs h x left_others sizes alike k l m (all_put (λ y. y ≢ k) xs x ys (λ i. ne (sym i)) w) ne)

    -- the list without x, in the tables where x is marked free
    pub left_ring : Ring (linked p₁ n₁ d) (xs ++ ys) × Ring (linked p' n' d) (xs ++ ys)
    left_ring =
        let a = unlink.list xs ys ring₀ in
        let z = unlink.sized.prevs_size in
        let l = big in (
          a,
          ring_frame (linked p₁ n₁ d) p' n' (xs ++ ys) (omega arith) fr.sizes.1 a
              (all_map (λ y. y ≢ x) (Kept (linked p₁ n₁ d) (linked p' n' d))
              (λ y ne. (at _ _ y fr.prevs_are ∙ upd_other (λ i. get_or p₁ i 0) x x y ne, at _ _ y fr.nexts_are ∙ upd_other (λ i. get_or n₁ i 0) x x y ne)) (xs ++ ys) left_line),
        )

    pub left_kept : LineIn t₁ (line (row r g d) (xs ++ ys))
    left_kept = record {
      ring = left_ring.1;
      own =
          all_both (λ y. y ≢ x) (λ y. (get_or f y 0 ≡ g) × (owner b y ≡ r)) (λ y. (get_or f' y 0 ≡ g) × (owner b' y ≡ r))
          (λ y ne o. (at _ _ y fr.freqs_are ∙ upd_other (λ i. get_or f i 0) x 0 y ne ∙ o.0, at _ _ y owners ∙ o.1)) (xs ++ ys) left_line
          (all_mid (λ y. (get_or f y 0 ≡ g) × (owner b y ≡ r)) xs x ys (line_in t₀ s us was vs h).own).1;
    }

  -- x is in no level any more
  goes : (us : List Level) (g : ℕ) (xs ys : List ℕ) (vs : List Level) → Held t₀ s (us ++ level g (xs ++ x ∷ ys) ∷ vs) → Nowhere x ((us ++ keep g (xs ++ ys) []) ++ vs)
  goes us g xs ys vs held =
      let k = split_at t₀ s us g xs x ys vs r er held in
      let h = k.rep in
      let m = left_others k.lower g k.ends xs ys k.upper h b sp refl in
      all_append (λ l. Without x l.slots) (us ++ keep g (xs ++ ys) []) vs
      (all_append (λ l. Without x l.slots) us (keep g (xs ++ ys) [])
      (all_view (λ l. Without x l.slots) k.lower us k.seen_lower (all_left (λ v. Without x v.slots) k.lower k.upper m))
      (keep_away x g (xs ++ ys) (left_line k.lower g k.ends xs ys k.upper h b sp refl)))
      (all_view (λ l. Without x l.slots) k.upper vs k.seen_upper (all_right (λ v. Without x v.slots) k.lower k.upper m))

  -- another slot is left
  module _ (some : d.head ≢ NONE) (b' : List ℕ) (se : SetEnds b r d b') where
    abbrev k₁ : Tabs
    k₁ = tabs f' p' n' b' sp

    stays : (us : List Line) (g : ℕ) (e : Ends) (xs ys : List ℕ) (vs : List Line) → Lines t₀ s (us ++ line (row r g e) (xs ++ x ∷ ys) ∷ vs) → Lines k₁ s (us ++ line (row r g d) (xs ++ ys) ∷ vs)
    stays us g e xs ys vs h = record {
      even = left_even us g e xs ys vs h b' sp se.owners;
      spares_size = h.spares_size ∙ sym fr.sizes.0;
      records = rw (rows_append us (line (row r g d) (xs ++ ys) ∷ vs)) (se.rows sp s (rows us) g e (rows vs) (records_mid t₀ s us (line (row r g e) (xs ++ x ∷ ys)) vs h));
      each = all_put (LineIn k₁) us (line (row r g d) (xs ++ ys)) vs (left_kept us g e xs ys vs h b' sp se.owners) (left_each us g e xs ys vs h b' sp se.owners);
      free = λ k l m.
          let q = all_mid (λ v. Without k v.slots) us (line (row r g d) (xs ++ ys)) vs m in
          left_free us g e xs ys vs h b' sp se.owners k l q.1 q.0;
    }

    pub leaves_some : LevelLeaves t₀ s x k₁ r s
    leaves_some = record { size = fr.sizes.0; holds = parts; gone = goes }
      where
        parts : (us : List Level) (g : ℕ) (xs ys : List ℕ) (vs : List Level) → Held t₀ s (us ++ level g (xs ++ x ∷ ys) ∷ vs) → Parted k₁ s r (us ++ keep g (xs ++ ys) []) vs
        parts us g xs ys vs held =
            let k = split_at t₀ s us g xs x ys vs r er held in
            let h = k.rep in
            let l : Line = line (row r g d) (xs ++ ys) in
            let full : 0 < length (xs ++ ys) = has_some p₁ n₁ d (xs ++ ys) (left_ring k.lower g k.ends xs ys k.upper h b sp refl).0 some in
            record {
              lower = k.lower ++ l ∷ [];
              upper = k.upper;
              rep = rw append_assoc (stays k.lower g k.ends xs ys k.upper h);
              some = rw append_assoc (all_put Some k.lower l k.upper full k.some);
              seen_lower = view_append k.lower (l ∷ []) ∙ (λ i. k.seen_lower i ++ sym (keep_some g (xs ++ ys) full) i);
              seen_upper = k.seen_upper;
              place = sym (ap (λ (ws : List Row). final NONE (nums ws)) (rows_append k.lower (l ∷ [])) ∙ ap (final NONE) (nums_append (rows k.lower) (row r g d ∷ [])) ∙ final_append NONE (nums (rows k.lower)) (r ∷ []));
            }

  -- no slot is left, and the record is dropped
  module _ (none : d.head ≡ NONE) (at₀ : ℕ) (ea : at₀ ≡ lower b r) (b' sp' : List ℕ) (s' : Buckets) (dr : Drops b sp s r b' sp' s') where
    abbrev d₁ : Tabs
    d₁ = tabs f' p' n' b' sp'

    drops_line : (us : List Line) (g : ℕ) (e : Ends) (xs ys : List ℕ) (vs : List Line) → xs ++ ys ≡ [] → Lines t₀ s (us ++ line (row r g e) (xs ++ x ∷ ys) ∷ vs) → Lines d₁ s' (us ++ vs)
    drops_line us g e xs ys vs z h = record {
      even = left_even us g e xs ys vs h b' sp' dr.owners;
      spares_size = dr.spares_size ∙ h.spares_size ∙ sym fr.sizes.0;
      records = rw (rows_append us vs) (dr.rows (rows us) g e (rows vs) (records_mid t₀ s us (line (row r g e) (xs ++ x ∷ ys)) vs h));
      each = left_each us g e xs ys vs h b' sp' dr.owners;
      free = λ k l m. left_free us g e xs ys vs h b' sp' dr.owners k l m (subst (Without k) (sym z) tt);
    }

    pub leaves_none : LevelLeaves t₀ s x d₁ at₀ s'
    leaves_none = record { size = fr.sizes.0; holds = parts; gone = goes }
      where
        parts : (us : List Level) (g : ℕ) (xs ys : List ℕ) (vs : List Level) → Held t₀ s (us ++ level g (xs ++ x ∷ ys) ∷ vs) → Parted d₁ s' at₀ (us ++ keep g (xs ++ ys) []) vs
        parts us g xs ys vs held =
            let k = split_at t₀ s us g xs x ys vs r er held in
            let h = k.rep in
            let l : Line = line (row r g k.ends) (xs ++ x ∷ ys) in
            let a = lines_room t₀ s (k.lower ++ l ∷ k.upper) h in
            let c = un.sized.prevs_size in
            let z : xs ++ ys ≡ [] = has_none p₁ n₁ d (xs ++ ys) (omega arith) (left_ring k.lower g k.ends xs ys k.upper h b sp refl).0 none in
            record {
              lower = k.lower;
              upper = k.upper;
              rep = drops_line k.lower g k.ends xs ys k.upper z h;
              some = k.some;
              seen_lower = k.seen_lower ∙ sym (append-nil us) ∙ ap (λ (zs : List ℕ). us ++ keep g zs []) (sym z);
              seen_upper = k.seen_upper;
              place = ea ∙ below_row b sp s (rows k.lower) (row r g k.ends) (rows k.upper) (records_mid t₀ s k.lower l k.upper h);
            }
