-- What touch, restart, bind and unbind do to the levels: leave and enter put together, or one of the two short ways.
use mathlib.Core.Path.{◌≡◌, refl, sym, ap, ◌∙◌, subst}
use mathlib.Core.Logic.{◌≢◌, inl}
use mathlib.Core.List.{List, [], ◌∷◌, ◌++◌, append_assoc, append-nil}
use Prim.Native.Nat.{ℕ, ◌+◌, ◌<◌, ◌≤◌}
use native.Mathlib.Omega.{arith}
use lib.ListN.{length, get_or}
use Rattle.numbers.specs.Marks.{NONE}
use Rattle.numbers.specs.Frequency.{FIRST, CEILING, raised}
use Rattle.numbers.specs.declared.Frequency.{Frequency}
use Rattle.lists.specs.Lists.{All, final}
use Rattle.lists.proofs.Tests.{by_lt, if_other, if_less, if_not_less}
use Rattle.lists.proofs.Members.{all_map, all_append, all_right, final_in, final_append}
use Rattle.links.specs.Linked.{Ring, linked}
use Rattle.links.specs.declared.Ends.{Ends}
use Rattle.links.proofs.Functions.{look_end}
use Rattle.links.proofs.Lists.{ring_distinct, ring_tail}
use Rattle.bucket_table.specs.declared.Buckets.{Buckets}
use Rattle.bucket_table.specs.Records.{Row, row, nums, frequency, owner, up, Spot, RecordsHold}
use Rattle.bucket_table.proofs.Rows.{nums_append, rising_around, rising_above, next_row, row_in, row_some, row_written, above_spot}
use Rattle.levels.specs.Levels.{Level, level, Nowhere, keep, join, touched}
use Rattle.levels.specs.Held.{Tabs, tabs, Line, line, rows, Held, Parted}
use Rattle.levels.specs.Calls.{Fronts, InPlace, Lifts, Ready, Binding, Unbinds, SlotBound, LevelTouches, LevelRestarts, LevelBinds, LevelLeaves, LevelEnters}
use Rattle.levels.proofs.Lines.{view_append, all_view, all_rows, lines_room, records_mid, line_in, written, split_held, split_at}
use Rattle.levels.proofs.One.{free_nowhere, free_exact}
use Rattle.levels.proofs.Leave.{bound_split, bound_fits, bound_records}

-- ---- the order of the levels

-- the levels below one have lower frequencies, and those above it higher ones
pub held_order : (t : Tabs) (s : Buckets) (us : List Level) (f : ℕ) (zs : List ℕ) (vs : List Level) → Held t s (us ++ level f zs ∷ vs)
    → All (λ l. l.freq < f) us × (1 ≤ f) × (f ≤ CEILING) × All (λ l. f < l.freq) vs
held_order t s us f zs vs h =
    let k = split_held t s us f zs vs h in
    let m = k.1 in
    let ri = rising_around 0 (rows m.lower) (row k.0 f m.ends) (rows m.upper) (records_mid t s m.lower (line (row k.0 f m.ends) zs) m.upper m.rep).rising in
    let one = ri.1 in (
      all_view (λ l. l.freq < f) m.lower us m.seen_lower (all_rows (λ w. w.freq < f) m.lower ri.0),
      omega arith,
      ri.2,
      all_view (λ l. f < l.freq) m.upper vs m.seen_upper (all_rows (λ w. f < w.freq) m.upper ri.3),
    )

pub keep_append : (us : List Level) (f : ℕ) (zs : List ℕ) (ls : List Level) → (us ++ keep f zs []) ++ ls ≡ us ++ keep f zs ls
keep_append us f [] ls = ap (λ (l : List Level). l ++ ls) (append-nil us)
keep_append us f (z ∷ zs) ls = append_assoc us (level f (z ∷ zs) ∷ []) ls

keep_all : (P : Level → Type 0) (f : ℕ) (zs : List ℕ) → P (level f zs) → All P (keep f zs [])
keep_all P f [] p = tt
keep_all P f (z ∷ zs) p = (p, tt)

pub parted_held : (t : Tabs) (s : Buckets) (at : ℕ) (us vs : List Level) → Parted t s at us vs → Held t s (us ++ vs)
parted_held t s at us vs k = record {
  lines = k.lower ++ k.upper;
  rep = k.rep;
  some = k.some;
  seen = view_append k.lower k.upper ∙ (λ i. k.seen_lower i ++ k.seen_upper i);
}

-- ---- a slot that is alone

lone : (p n : List ℕ) (e : Ends) → length p ≤ NONE → (xs : List ℕ) (x : ℕ) (ys : List ℕ) → Ring (linked p n e) (xs ++ x ∷ ys) → e.head ≡ e.tail → (xs ≡ []) × (ys ≡ [])
lone p n e room [] x [] h q = (refl, refl)
lone p n e room [] x (y ∷ ys) h q =
    let d = (ring_distinct (linked p n e) room (x ∷ y ∷ ys) h).0 in
    let hd : e.head ≡ x = sym (look_end (λ k. get_or n k 0) e.head) ∙ h.links.0 in
    let tl : e.tail ≡ final y ys = ring_tail (linked p n e) room (x ∷ y ∷ ys) h in
    absurd (final_in (λ k. k ≢ x) y ys d.0 d.1 (sym tl ∙ sym q ∙ hd))
lone p n e room (u ∷ us) x ys h q =
    let d = all_right (λ k. k ≢ u) us (x ∷ ys) (ring_distinct (linked p n e) room (u ∷ (us ++ x ∷ ys)) h).0 in
    let hd : e.head ≡ u = sym (look_end (λ k. get_or n k 0) e.head) ∙ h.links.0 in
    let tl : e.tail ≡ final x ys = ring_tail (linked p n e) room (u ∷ (us ++ x ∷ ys)) h ∙ final_append u us (x ∷ ys) in
    absurd (final_in (λ k. k ≢ u) x ys d.0 d.1 (sym tl ∙ sym q ∙ hd))

-- ---- `touch`

-- a slot that has left is ready to enter
pub left_ready : (t : Tabs) (s : Buckets) (x : ℕ) (t₁ : Tabs) (at₁ : ℕ) (s₁ : Buckets) → LevelLeaves t s x t₁ at₁ s₁ → SlotBound t s x → Ready t₁ s₁ at₁ x
left_ready t s x t₁ at₁ s₁ d b = record {
  us = b.us ++ keep b.freq (b.xs ++ b.ys) [];
  vs = b.vs;
  parted = d.holds b.us b.freq b.xs b.ys b.vs b.held;
  slot = let l = (bound_fits t s x b).1 in let z = d.size in omega arith;
  away = d.gone b.us b.freq b.xs b.ys b.vs b.held;
}

-- what `capped` tells: a level that stays is at the cap or above, one that does not goes one up
pub stays_at_cap : (cap f n : ℕ) → n ≡ raised cap f → n ≡ f → cap ≤ f
stays_at_cap cap f n e q = by_lt f cap (λ l. absurd (omega (arith, e ∙ if_less f cap (f + 1) f l))) (λ l. l)

pub goes_up : (cap f n : ℕ) → n ≡ raised cap f → n ≢ f → (f < cap) × (n ≡ f + 1)
goes_up cap f n e q = by_lt f cap (λ l. (l, e ∙ if_less f cap (f + 1) f l)) (λ l. absurd (q (e ∙ if_not_less f cap (f + 1) f l)))

module _ (t : Tabs) (s : Buckets) (x cap r : ℕ) (er : r ≡ owner t.buckets x) (f₀ : Frequency) (ef : f₀.0 ≡ frequency t.buckets r) where
  -- the frequency that was read is the level's
  is_level : (us : List Level) (f : ℕ) (xs ys : List ℕ) (vs : List Level) → Held t s (us ++ level f (xs ++ x ∷ ys) ∷ vs) → f₀.0 ≡ f
  is_level us f xs ys vs h =
      let k = split_at t s us f xs x ys vs r er h in ef ∙ (written t s k.lower (line (row r f k.ends) (xs ++ x ∷ ys)) k.upper k.rep).freq_is

  -- at the cap or above
  pub touch_front : cap ≤ f₀.0 → (p' n' b' : List ℕ) → Fronts t.prevs t.nexts t.buckets r x p' n' b' → LevelTouches t s x cap (tabs t.freqs p' n' b' t.spares) f₀ s
  touch_front le p' n' b' d = record {
    answer = λ us f xs ys vs h. let e = is_level us f xs ys vs h in e ∙ sym (if_not_less f cap (f + 1) f (omega arith));
    holds = λ us f xs ys vs h.
        let e = is_level us f xs ys vs h in
        rw (if_not_less f cap (keep f (xs ++ ys) (join x (f + 1) vs)) (level f (x ∷ (xs ++ ys)) ∷ vs) (omega arith)) (d.holds t.freqs t.spares s us f xs ys vs er h);
  }

  module _ (low : f₀.0 < cap) (f₁ : Frequency) (e₁ : f₁.0 ≡ f₀.0 + 1) (big : f₁.0 ≤ CEILING) where
    answers : (us : List Level) (f : ℕ) (xs ys : List ℕ) (vs : List Level) → Held t s (us ++ level f (xs ++ x ∷ ys) ∷ vs) → f₁.0 ≡ raised cap f
    answers us f xs ys vs h = let e = is_level us f xs ys vs h in e₁ ∙ ap (λ (k : ℕ). k + 1) e ∙ sym (if_less f cap (f + 1) f (omega arith))

    rises : (us : List Level) (f : ℕ) (xs ys : List ℕ) (vs : List Level) → Held t s (us ++ level f (xs ++ x ∷ ys) ∷ vs) → (t' : Tabs) (s' : Buckets)
        → Held t' s' (us ++ keep f (xs ++ ys) (join x (f + 1) vs)) → Held t' s' (us ++ touched cap x f (xs ++ ys) vs)
    rises us f xs ys vs h t' s' k =
        let e = is_level us f xs ys vs h in rw (if_less f cap (keep f (xs ++ ys) (join x (f + 1) vs)) (level f (x ∷ (xs ++ ys)) ∷ vs) (omega arith)) k

    -- no level above has the next frequency
    gap : InPlace t.buckets s r f₁.0 → (us : List Level) (f : ℕ) (xs ys : List ℕ) (vs : List Level) → Held t s (us ++ level f (xs ++ x ∷ ys) ∷ vs)
        → All (λ l. f + 1 < l.freq) vs × (level (f + 1) (x ∷ []) ∷ vs ≡ join x (f + 1) vs)
    gap i us f xs ys vs h =
        let k = split_at t s us f xs x ys vs r er h in
        let e = e₁ ∙ ap (λ (k : ℕ). k + 1) (is_level us f xs ys vs h) in
        let a = go k.upper (rows k.lower) k.ends (records_mid t s k.lower (line (row r f k.ends) (xs ++ x ∷ ys)) k.upper k.rep) e in
        let b = all_view (λ l. f + 1 < l.freq) k.upper vs k.seen_upper (all_rows (λ w. f + 1 < w.freq) k.upper a) in
        (b, new vs b)
      where
        go : (ls : List Line) (ws : List Row) (d : Ends) → RecordsHold t.buckets t.spares s (ws ++ row r f d ∷ rows ls) → f₁.0 ≡ f + 1 → All (λ w. f + 1 < w.freq) (rows ls)
        go [] ws d hs e = tt
        go (l ∷ ls) ws d hs e =
            let up_is = next_row t.buckets t.spares s ws (row r f d) l.row (rows ls) hs in
            let hs' : RecordsHold t.buckets t.spares s ((ws ++ row r f d ∷ []) ++ l.row ∷ rows ls) = rw append_assoc hs in
            let w = (row_written t.buckets t.spares s (ws ++ row r f d ∷ []) l.row (rows ls) hs').freq_is in
            let o = row_some t.buckets t.spares s (ws ++ row r f d ∷ []) l.row (rows ls) hs' in
            let ne : l.row.freq ≢ f + 1 = λ q. i.gap ((λ z. o (sym up_is ∙ z)), ap (frequency t.buckets) up_is ∙ w ∙ q ∙ sym e) in
            let ri = (rising_around 0 ws (row r f d) (l.row ∷ rows ls) hs.rising).3 in
            let a = ri.0 in
            let rest = (rising_around 0 (ws ++ row r f d ∷ []) l.row (rows ls) hs'.rising).3 in
            (omega arith, all_map (λ w. l.row.freq < w.freq) (λ w. f + 1 < w.freq) (λ w q. omega arith) (rows ls) rest)

        new : (vs : List Level) → All (λ l. f + 1 < l.freq) vs → level (f + 1) (x ∷ []) ∷ vs ≡ join x (f + 1) vs
        new [] a = refl
        new (v ∷ vs) a = let l = a.0 in sym (if_other v.freq (f + 1) (level (f + 1) (x ∷ v.slots) ∷ vs) (level (f + 1) (x ∷ []) ∷ v ∷ vs) (omega arith))

    -- alone, with room above
    pub touch_lift : (f' b' : List ℕ) → InPlace t.buckets s r f₁.0 → Lifts t.freqs t.buckets r f₁.0 x f' b'
        → LevelTouches t s x cap (tabs f' t.prevs t.nexts b' t.spares) f₁ s
    touch_lift f' b' i d = record {
      answer = answers;
      holds = λ us f xs ys vs h.
          let k = split_at t s us f xs x ys vs r er h in
          let l : Line = line (row r f k.ends) (xs ++ x ∷ ys) in
          let w = written t s k.lower l k.upper k.rep in
          let z = lone t.prevs t.nexts k.ends (lines_room t s (k.lower ++ l ∷ k.upper) k.rep) xs x ys (line_in t s k.lower l k.upper k.rep).ring (sym w.head_is ∙ i.lone ∙ w.tail_is) in
          let g = gap i us f xs ys vs h in
          let e : f₁.0 ≡ f + 1 = e₁ ∙ ap (λ (k : ℕ). k + 1) (is_level us f xs ys vs h) in
          let h₁ : Held t s (us ++ level f (x ∷ []) ∷ vs) = rw (z.0, z.1) at h in
          let h₂ = d.holds t.prevs t.nexts t.spares s us f vs er (omega arith) (omega arith) (rw e g.0) h₁ in
          rises us f xs ys vs h (tabs f' t.prevs t.nexts b' t.spares) s (rw (z.0, z.1, sym g.1) (rw e at h₂));
    }

    module _ (t₁ : Tabs) (at₁ : ℕ) (s₁ : Buckets) (d : LevelLeaves t s x t₁ at₁ s₁) where
      -- out, and in again one level higher
      pub touch_moves : (t' : Tabs) (s' : Buckets) → LevelEnters t₁ s₁ at₁ f₁.0 x t' s' → LevelTouches t s x cap t' f₁ s'
      touch_moves t' s' en = record {
        answer = answers;
        holds = λ us f xs ys vs h.
            let e : f₁.0 ≡ f + 1 = e₁ ∙ ap (λ (k : ℕ). k + 1) (is_level us f xs ys vs h) in
            let en' = subst (λ (k : ℕ). LevelEnters t₁ s₁ at₁ k x t' s') e en in
            let ord = held_order t s us f (xs ++ x ∷ ys) vs h in
            let hu = all_append (λ l. l.freq < f + 1) us (keep f (xs ++ ys) []) (all_map (λ l. l.freq < f) (λ l. l.freq < f + 1) (λ l q. omega arith) us ord.0) (keep_all (λ l. l.freq < f + 1) f (xs ++ ys) (omega arith)) in
            let hv = all_map (λ l. f < l.freq) (λ l. f + 1 ≤ l.freq) (λ l q. omega arith) vs ord.3 in
            let k = en'.holds (us ++ keep f (xs ++ ys) []) vs (omega arith) (omega arith) hu hv (d.gone us f xs ys vs h) (d.holds us f xs ys vs h) in
            rises us f xs ys vs h t' s' (rw (keep_append us f (xs ++ ys) (join x (f + 1) vs)) at k);
      }

-- where `in_place` looks
pub bound_spots : (t : Tabs) (s : Buckets) (x : ℕ) → SlotBound t s x → (r : ℕ) → r ≡ owner t.buckets x → Spot t.buckets r × Spot t.buckets (up t.buckets s r)
bound_spots t s x b r er =
    let k = bound_split t s x b r er in
    let h = bound_records t s x b r er in
    let w : Row = row r b.freq k.ends in
    let h' : RecordsHold t.buckets t.spares s ((rows k.lower ++ w ∷ []) ++ rows k.upper) = rw append_assoc h in
    let e : r ≡ final NONE (nums (rows k.lower ++ w ∷ [])) = sym (ap (final NONE) (nums_append (rows k.lower) (w ∷ [])) ∙ final_append NONE (nums (rows k.lower)) (r ∷ [])) in
    (inl (row_in t.buckets t.spares s (rows k.lower) w (rows k.upper) h), rw e (above_spot t.buckets t.spares s (rows k.lower ++ w ∷ []) (rows k.upper) h'))

-- ---- `restart`

module _ (t : Tabs) (s : Buckets) (x : ℕ) (t₁ : Tabs) (at₁ : ℕ) (s₁ : Buckets) (d : LevelLeaves t s x t₁ at₁ s₁) where
  -- the slot that has left is marked free
  pub restart_ready : SlotBound t s x → Binding t₁ s₁ x
  restart_ready b =
      let r = left_ready t s x t₁ at₁ s₁ d b in
      let ls = r.us ++ r.vs in
      let h = parted_held t₁ s₁ at₁ r.us r.vs r.parted in
      record { sound = (ls, h); slot = r.slot; next_own = (free_exact t₁ s₁ ls h x r.slot).1 r.away }

  pub restarts : (t' : Tabs) (s' : Buckets) → LevelBinds t₁ s₁ x t' s' → LevelRestarts t s x t' s'
  restarts t' s' en = record {
    holds = λ us f xs ys vs h.
        let lower = us ++ keep f (xs ++ ys) [] in
        rw (keep_append us f (xs ++ ys) vs) at (en.holds (lower ++ vs) (parted_held t₁ s₁ at₁ lower vs (d.holds us f xs ys vs h)));
  }

-- ---- `unbind`

pub unbinds : (t : Tabs) (s : Buckets) (x : ℕ) (t' : Tabs) (at₁ : ℕ) (s₁ : Buckets) → LevelLeaves t s x t' at₁ s₁ → Unbinds t s x t' s₁
unbinds t s x t' at₁ s₁ d = record {
  holds = λ us f xs ys vs h. rw (keep_append us f (xs ++ ys) vs) at (parted_held t' s₁ at₁ (us ++ keep f (xs ++ ys) []) vs (d.holds us f xs ys vs h));
}

-- ---- `bind`

-- no level is below the first, so all levels stand above the place that has no record below it
first_least : (t : Tabs) (s : Buckets) (ls : List Level) → Held t s ls → All (λ l. FIRST ≤ l.freq) ls
first_least t s ls h =
    all_view (λ l. FIRST ≤ l.freq) h.lines ls h.seen (all_rows (λ w. FIRST ≤ w.freq) h.lines (rising_above 0 (rows h.lines) h.rep.records.rising))

all_above : (t : Tabs) (s : Buckets) (ls : List Level) → Held t s ls → Parted t s NONE [] ls
all_above t s ls h = record { lower = []; upper = h.lines; rep = h.rep; some = h.some; seen_lower = refl; seen_upper = h.seen; place = refl }

module _ (t : Tabs) (s : Buckets) (x : ℕ) (pre : Binding t s x) where
  away : (ls : List Level) → Held t s ls → Nowhere x ls
  away ls h = free_nowhere t s ls h x pre.next_own

  pub bind_ready : Ready t s NONE x
  bind_ready =
      let ls = pre.sound.0 in
      let h = pre.sound.1 in
      record { us = []; vs = ls; parted = all_above t s ls h; slot = pre.slot; away = away ls h }

  pub binds : (t' : Tabs) (s' : Buckets) → LevelEnters t s NONE FIRST x t' s' → LevelBinds t s x t' s'
  binds t' s' en = record { holds = λ ls h. en.holds [] ls (omega arith) (omega arith) tt (first_least t s ls h) (away ls h) (all_above t s ls h) }
