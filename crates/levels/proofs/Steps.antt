-- What the parts of a call do to one line: the laws of `links` and of the bucket table at that line, and the others stay.
use mathlib.Core.Path.{◌≡◌, refl, sym, ap, ◌∙◌, subst}
use mathlib.Core.Logic.{◌≢◌}
use mathlib.Core.List.{List, [], ◌∷◌, ◌++◌}
use Prim.Native.Nat.{ℕ, ◌<◌, ◌≤◌}
use native.Mathlib.Omega.{arith}
use lib.ListN.{length, get_or, set, length-set}
use lib.Seq.{get_or-set_same, get_or-set_other}
use Rattle.numbers.specs.Frequency.{CEILING}
use Rattle.lists.specs.Lists.{All, Without}
use Rattle.lists.proofs.Members.{all_map, all_both, all_mid, all_put}
use Rattle.links.specs.Ring.{upd}
use Rattle.links.specs.Linked.{Fits, Pushed, Moved, linked}
use Rattle.links.specs.declared.Ends.{Ends}
use Rattle.links.proofs.Functions.{upd_same, upd_other, cells_upd}
use Rattle.bucket_table.specs.declared.Buckets.{Buckets}
use Rattle.bucket_table.specs.Records.{Row, row, owner, EndsAt, Written}
use Rattle.bucket_table.specs.Calls.{SetEnds, SetOwner, Raises}
use Rattle.levels.specs.Levels.{level}
use Rattle.levels.specs.Held.{Tabs, tabs, Line, line, rows, Missing, Lines, Some}
use Rattle.levels.specs.Calls.{Frees, Attaching, Attaches, Fronts, Lifts}
use Rattle.levels.proofs.Lines.{rows_append, view_append, view_all, rows_all, LineIn, records_mid, line_in, written, only_here, split_at, Alike, Resized, even_still, others_still, free_still}

-- a function at one place, by an equation of functions
pub at : (f g : ℕ → ℕ) (k : ℕ) → f ≡ g → f k ≡ g k
at f g k e = ap (λ (h : ℕ → ℕ). h k) e

-- the ends that were read are the row's
pub ends_are : (b : List ℕ) (w : Row) (e : Ends) → Written b w → EndsAt b w.num e → e ≡ w.ends
ends_are b w e m h = λ i. record { head = (h.0 ∙ m.head_is) i; tail = (h.1 ∙ m.tail_is) i; count = (h.2 ∙ m.count_is) i }

-- ---- `free`

pub freed : (f p n : List ℕ) (x : ℕ) → Fits p n x → x < length f → Frees f p n x (set f x 0) (set p x x) (set n x x)
freed f p n x h l =
    let a = h.slot in let b = h.even in
    record {
      freqs_are = cells_upd f x 0 l;
      prevs_are = cells_upd p x x a;
      nexts_are = cells_upd n x x (omega arith);
      sizes = (length-set f x 0, length-set p x x, length-set n x x);
    }

-- ---- `attach`

module _ (f p n b : List ℕ) (r g x : ℕ) (pre : Attaching f p n b r x) (e₀ : Ends) (read : EndsAt b r e₀) (p' n' : List ℕ) (d : Ends)
    (pu : Pushed (linked p n e₀) x (linked p' n' d)) (b₁ b' : List ℕ) (se : SetEnds b r d b₁) (so : SetOwner b₁ x r b') where
  abbrev f' : List ℕ
  f' = set f x g

  owners : owner b' ≡ upd (owner b) x r
  owners = so.owners ∙ ap (λ (h : ℕ → ℕ). upd h x r) se.owners

  module _ (sp : List ℕ) (s : Buckets) (us : List Line) (e : Ends) (zs : List ℕ) (vs : List Line)
      (away : Missing x (us ++ line (row r g e) zs ∷ vs)) (h : Lines (tabs f p n b sp) s (us ++ line (row r g e) zs ∷ vs)) where
    abbrev t₀ : Tabs
    t₀ = tabs f p n b sp

    abbrev t₁ : Tabs
    t₁ = tabs f' p' n' b' sp

    abbrev old : Line
    old = line (row r g e) zs

    apart : Without x zs × Missing x (us ++ vs)
    apart = all_mid (λ v. Without x v.slots) us old vs away

    push : Pushed (linked p n e) x (linked p' n' d)
    push = subst (λ (c : Ends). Pushed (linked p n c) x (linked p' n' d)) (ends_are b (row r g e) e₀ (written t₀ s us old vs h) read) pu

    sizes : Resized t₀ t₁
    sizes = record { freqs_size = length-set f x g; prevs_size = push.sized.prevs_size; nexts_size = push.sized.nexts_size }

    alike : (k : ℕ) → k < length f → Without k zs → k ≢ x → Alike t₀ t₁ k
    alike k l w ne =
        let q = h.even.prevs_size in
        let c = push.rest zs (line_in t₀ s us old vs h).ring k (omega arith) ((λ i. ne (sym i)), w) in
        record { freq_same = get_or-set_other f x k g 0 ne; prev_same = c.0; next_same = c.1; own_same = at _ _ k owners ∙ upd_other (owner b) x r k ne }

    mine : LineIn t₁ (line (row r g d) (x ∷ zs))
    mine = record {
      ring = push.list zs (line_in t₀ s us old vs h).ring apart.0;
      own = (
        (get_or-set_same f x g 0 pre.freq_in, at _ _ x owners ∙ upd_same (owner b) x r),
        all_both (λ y. y ≢ x) (λ y. (get_or f y 0 ≡ g) × (owner b y ≡ r)) (λ y. (get_or f' y 0 ≡ g) × (owner b' y ≡ r))
            (λ y ne o. (get_or-set_other f x y g 0 ne ∙ o.0, at _ _ y owners ∙ upd_other (owner b) x r y ne ∙ o.1)) zs apart.0 (line_in t₀ s us old vs h).own,
      );
    }

    attached : Lines t₁ s (us ++ line (row r g d) (x ∷ zs) ∷ vs)
    attached = record {
      even = even_still t₀ t₁ sizes h.even;
      spares_size = h.spares_size ∙ sym (length-set f x g);
      records = rw (rows_append us (line (row r g d) (x ∷ zs) ∷ vs)) (so.rows sp s (rows us ++ row r g d ∷ rows vs) (se.rows sp s (rows us) g e (rows vs) (records_mid t₀ s us old vs h)));
      each = all_put (LineIn t₁) us (line (row r g d) (x ∷ zs)) vs mine (others_still t₀ t₁ s us old vs h x apart.1 sizes alike);
      free = λ k l m.
          let q = all_mid (λ v. Without k v.slots) us (line (row r g d) (x ∷ zs)) vs m in
          free_still t₀ t₁ s us old vs h x apart.1 sizes alike k l q.1 q.0.1 (λ i. q.0.0 (sym i));
    }

  pub attaches : Attaches f p n b r g x f' p' n' b'
  attaches = record { lines = λ sp s us e zs vs a h. (d, attached sp s us e zs vs a h) }

-- ---- `front`

module _ (p n b : List ℕ) (r x : ℕ) (e₀ : Ends) (read : EndsAt b r e₀) (p' n' : List ℕ) (d : Ends)
    (mv : Moved (linked p n e₀) x (linked p' n' d)) (b' : List ℕ) (se : SetEnds b r d b') where
  module _ (f sp : List ℕ) (s : Buckets) (us : List Line) (g : ℕ) (e : Ends) (xs ys : List ℕ) (vs : List Line) (h : Lines (tabs f p n b sp) s (us ++ line (row r g e) (xs ++ x ∷ ys) ∷ vs)) where
    abbrev m₀ : Tabs
    m₀ = tabs f p n b sp

    abbrev m₁ : Tabs
    m₁ = tabs f p' n' b' sp

    abbrev was : Line
    was = line (row r g e) (xs ++ x ∷ ys)

    abbrev now : Line
    now = line (row r g d) (x ∷ (xs ++ ys))

    move : Moved (linked p n e) x (linked p' n' d)
    move = subst (λ (c : Ends). Moved (linked p n c) x (linked p' n' d)) (ends_are b (row r g e) e₀ (written m₀ s us was vs h) read) mv

    owns : ((get_or f x 0 ≡ g) × (owner b x ≡ r)) × All (λ y. (get_or f y 0 ≡ g) × (owner b y ≡ r)) (xs ++ ys)
    owns = all_mid (λ y. (get_or f y 0 ≡ g) × (owner b y ≡ r)) xs x ys (line_in m₀ s us was vs h).own

    move_sizes : Resized m₀ m₁
    move_sizes = record { freqs_size = refl; prevs_size = move.sized.prevs_size; nexts_size = move.sized.nexts_size }

    move_alike : (k : ℕ) → k < length f → Without k (xs ++ x ∷ ys) → k ≢ x → Alike m₀ m₁ k
    move_alike k l w ne =
        let q = h.even.prevs_size in
        let c = move.rest xs ys (line_in m₀ s us was vs h).ring k (omega arith) w in
        record { freq_same = refl; prev_same = c.0; next_same = c.1; own_same = at _ _ k se.owners }

    moved_line : LineIn m₁ now
    moved_line = record {
      ring = move.list xs ys (line_in m₀ s us was vs h).ring;
      own =
          all_map (λ y. (get_or f y 0 ≡ g) × (owner b y ≡ r)) (λ y. (get_or f y 0 ≡ g) × (owner b' y ≡ r)) (λ y o. (o.0, at _ _ y se.owners ∙ o.1)) (x ∷ (xs ++ ys)) owns;
    }

    fronted : Lines m₁ s (us ++ now ∷ vs)
    fronted =
        let away = only_here m₀ s us was vs h x owns.0.1 in
        record {
          even = even_still m₀ m₁ move_sizes h.even;
          spares_size = h.spares_size;
          records = rw (rows_append us (now ∷ vs)) (se.rows sp s (rows us) g e (rows vs) (records_mid m₀ s us was vs h));
          each = all_put (LineIn m₁) us now vs moved_line (others_still m₀ m₁ s us was vs h x away move_sizes move_alike);
          free = λ k l m.
              let q = all_mid (λ v. Without k v.slots) us now vs m in
              free_still m₀ m₁ s us was vs h x away move_sizes move_alike k l q.1 (all_put (λ y. y ≢ k) xs x ys q.0.0 q.0.1) (λ i. q.0.0 (sym i));
        }

  pub fronts : Fronts p n b r x p' n' b'
  fronts = record {
    holds = λ f sp s us g xs ys vs er h.
        let k = split_at (tabs f p n b sp) s us g xs x ys vs r er h in
        record {
          lines = k.lower ++ line (row r g d) (x ∷ (xs ++ ys)) ∷ k.upper;
          rep = fronted f sp s k.lower g k.ends xs ys k.upper k.rep;
          some = all_put Some k.lower (line (row r g d) (x ∷ (xs ++ ys))) k.upper (omega arith) k.some;
          seen = view_append k.lower (line (row r g d) (x ∷ (xs ++ ys)) ∷ k.upper) ∙ (λ i. k.seen_lower i ++ level g (x ∷ (xs ++ ys)) ∷ k.seen_upper i);
        };
  }

-- ---- `lift`

module _ (f b : List ℕ) (r h x : ℕ) (lx : x < length f) (b' : List ℕ) (ra : Raises b r h b') where
  abbrev fₗ : List ℕ
  fₗ = set f x h

  module _ (p n sp : List ℕ) (s : Buckets) (us : List Line) (g : ℕ) (e : Ends) (vs : List Line) (le : g ≤ h) (c : h ≤ CEILING) (above : All (λ w. h < w.freq) (rows vs))
      (rep : Lines (tabs f p n b sp) s (us ++ line (row r g e) (x ∷ []) ∷ vs)) where
    abbrev l₀ : Tabs
    l₀ = tabs f p n b sp

    abbrev l₁ : Tabs
    l₁ = tabs fₗ p n b' sp

    abbrev low : Line
    low = line (row r g e) (x ∷ [])

    abbrev high : Line
    high = line (row r h e) (x ∷ [])

    lift_sizes : Resized l₀ l₁
    lift_sizes = record { freqs_size = length-set f x h; prevs_size = refl; nexts_size = refl }

    lift_alike : (k : ℕ) → k < length f → Without k (x ∷ []) → k ≢ x → Alike l₀ l₁ k
    lift_alike k l w ne = record { freq_same = get_or-set_other f x k h 0 ne; prev_same = refl; next_same = refl; own_same = at _ _ k ra.owners }

    lifted : Lines l₁ s (us ++ high ∷ vs)
    lifted =
        let m = line_in l₀ s us low vs rep in
        let away = only_here l₀ s us low vs rep x m.own.0.1 in
        record {
          even = even_still l₀ l₁ lift_sizes rep.even;
          spares_size = rep.spares_size ∙ sym (length-set f x h);
          records = rw (rows_append us (high ∷ vs)) (ra.rows sp s (rows us) g e (rows vs) le c above (records_mid l₀ s us low vs rep));
          each =
              all_put (LineIn l₁) us high vs (record { ring = m.ring; own = ((get_or-set_same f x h 0 lx, at _ _ x ra.owners ∙ m.own.0.1), tt) })
              (others_still l₀ l₁ s us low vs rep x away lift_sizes lift_alike);
          free = λ k l w.
              let q = all_mid (λ v. Without k v.slots) us high vs w in
              free_still l₀ l₁ s us low vs rep x away lift_sizes lift_alike k l q.1 q.0 (λ i. q.0.0 (sym i));
        }

  pub lifts : Lifts f b r h x fₗ b'
  lifts = record {
    holds = λ p n sp s us g vs er le c above held.
        let k = split_at (tabs f p n b sp) s us g [] x [] vs r er held in
        let up-rows = rows_all (λ w. h < w.freq) k.upper (view_all (λ l. h < l.freq) k.upper vs k.seen_upper above) in
        record {
          lines = k.lower ++ line (row r h k.ends) (x ∷ []) ∷ k.upper;
          rep = lifted p n sp s k.lower g k.ends k.upper le c up-rows k.rep;
          some = all_put Some k.lower (line (row r h k.ends) (x ∷ [])) k.upper (omega arith) k.some;
          seen = view_append k.lower (line (row r h k.ends) (x ∷ []) ∷ k.upper) ∙ (λ i. k.seen_lower i ++ level h (x ∷ []) ∷ k.seen_upper i);
        };
  }
