-- The place of a frequency above the levels that are done. A slot of the highest of them knows its record, and that record, or the one below it,
-- parts the levels where the next slot enters.
use mathlib.Core.Path.{◌≡◌, refl, sym, ap, ◌∙◌, subst}
use mathlib.Core.Logic.{◌≢◌}
use mathlib.Core.Bool.{cond}
use mathlib.Core.List.{List, [], ◌∷◌, ◌++◌, append_assoc}
use Prim.Native.Nat.{ℕ, ◌<◌, ◌≤◌}
use native.Mathlib.Omega.{arith}
use lib.Dec.{eqb}
use Rattle.numbers.specs.Marks.{NONE}
use Rattle.lists.specs.Lists.{All, In, final}
use Rattle.lists.proofs.Tests.{by_eq, if_same, if_other}
use Rattle.lists.proofs.Members as Members
use Rattle.lists.proofs.Members.{all_map, all_append, all_put, in_split, in_length, final_append}
use Rattle.links.specs.Ring.{look}
use Rattle.links.proofs.Functions.{look_end, look_at}
use Rattle.bucket_table.specs.declared.Buckets.{Buckets}
use Rattle.bucket_table.specs.Records.{row, nums, frequency, lower, owner, RecordsHold}
use Rattle.bucket_table.specs.Calls.{HasLevel}
use Rattle.bucket_table.proofs.Rows.{nums_append, row_in, below_row}
use Rattle.levels.specs.Levels.{Level, level, join}
use Rattle.levels.specs.Held.{Tabs, Line, line, rows, Some, Held, Parted}
use Rattle.levels.specs.Calls.{SlotBound}
use Rattle.levels.proofs.Lines.{rows_append, view_append, Split, split_at, records_mid, written}
use Rattle.levels.proofs.Leave.{bound_fits, bound_slot_in}
use Rattle.levels.proofs.Calls.{held_order}
use Rattle.buckets_regroup.specs.Falls.{under, height, Top, Reachable, place_above}
use Rattle.buckets_regroup.proofs.Settled.{under_is}

-- ---- a level and one of its slots

module _ (t : Tabs) (s : Buckets) (us : List Level) (d : Level) (vs : List Level) (x : ℕ) (i : In x d.slots) (h : Held t s (us ++ d ∷ vs)) where
  -- the level, parted at the slot
  abbrev cut : Members.Split x d.slots
  cut = in_split x d.slots i

  opened : Held t s (us ++ level d.freq (cut.before ++ x ∷ cut.after) ∷ vs)
  opened = subst (λ (zs : List ℕ). Held t s (us ++ level d.freq zs ∷ vs)) cut.is h

  pub slot_bound : SlotBound t s x
  slot_bound = record { us = us; freq = d.freq; xs = cut.before; ys = cut.after; vs = vs; held = opened }

  pub slot_some : x ≢ NONE
  slot_some = let f = (bound_fits t s x slot_bound).0 in let a = f.room in let b = f.slot in omega arith

  -- the level's line, which has the slot's record
  here : Split t s (owner t.buckets x) us d.freq d.slots vs
  here =
      subst (λ (zs : List ℕ). Split t s (owner t.buckets x) us d.freq zs vs) (sym cut.is)
      (split_at t s us d.freq cut.before x cut.after vs (owner t.buckets x) refl opened)

  abbrev mine : Line
  mine = line (row (owner t.buckets x) d.freq here.ends) d.slots

  records : RecordsHold t.buckets t.spares s (rows here.lower ++ mine.row ∷ rows here.upper)
  records = records_mid t s here.lower mine here.upper here.rep

  some_lines : All Some (here.lower ++ mine ∷ here.upper)
  some_lines = all_put Some here.lower mine here.upper (in_length x d.slots i) here.some

  pub slot_frequency : frequency t.buckets (owner t.buckets x) ≡ d.freq
  slot_frequency = (written t s here.lower mine here.upper here.rep).freq_is

  pub slot_reachable : Reachable t.buckets x
  slot_reachable ne =
      let r = row_in t.buckets t.spares s (rows here.lower) mine.row (rows here.upper) records in
      (bound_slot_in t s x slot_bound, r.0, r.1)

  -- its record is the last below what is above the level
  pub parted_over : Parted t s (owner t.buckets x) (us ++ d ∷ []) vs
  parted_over = record {
    lower = here.lower ++ mine ∷ [];
    upper = here.upper;
    rep = rw append_assoc here.rep;
    some = rw append_assoc some_lines;
    seen_lower = view_append here.lower (mine ∷ []) ∙ ap (λ (ls : List Level). ls ++ d ∷ []) here.seen_lower;
    seen_upper = here.seen_upper;
    place =
        sym
        (ap (λ ws. final NONE (nums ws)) (rows_append here.lower (mine ∷ [])) ∙ ap (final NONE) (nums_append (rows here.lower) (mine.row ∷ []))
        ∙ final_append NONE (nums (rows here.lower)) (owner t.buckets x ∷ []));
  }

  -- and the one below it is the last below the level
  pub parted_at : Parted t s (lower t.buckets (owner t.buckets x)) us (d ∷ vs)
  parted_at = record {
    lower = here.lower;
    upper = mine ∷ here.upper;
    rep = here.rep;
    some = some_lines;
    seen_lower = here.seen_lower;
    seen_upper = ap (λ (ls : List Level). d ∷ ls) here.seen_upper;
    place = below_row t.buckets t.spares s (rows here.lower) mine.row (rows here.upper) records;
  }

-- ---- `place_above`

module _ (b : List ℕ) (x f : ℕ) where
  pub place_none : x ≡ NONE → NONE ≡ place_above b x f
  place_none e = sym (rw (e, look_end _ NONE))

  module _ (ne : x ≢ NONE) (n : ℕ) (en : n ≡ owner b x) where
    place_read : place_above b x f ≡ cond (eqb (frequency b n) f) (lower b n) n
    place_read = look_at _ NONE x ne ∙ ap (λ (r : ℕ). cond (eqb (frequency b r) f) (lower b r) r) (sym en)

    pub place_below : HasLevel b n f → (v : ℕ) → v ≡ lower b n → v ≡ place_above b x f
    place_below h v ev = ev ∙ sym (place_read ∙ if_same (frequency b n) f _ _ h.1)

    pub place_own : n < NONE → (HasLevel b n f → ⊥) → n ≡ place_above b x f
    place_own l other = sym (place_read ∙ if_other (frequency b n) f _ _ (λ q. other (omega arith, q)))

-- ---- the levels that are done

-- the record of slot x, NONE of NONE
abbrev pub record_of : List ℕ → ℕ → ℕ
record_of b x = look (owner b) NONE x

parted_none : (t : Tabs) (s : Buckets) (ls : List Level) → Held t s ls → Parted t s NONE [] ls
parted_none t s ls h = record { lower = []; upper = h.lines; rep = h.rep; some = h.some; seen_lower = refl; seen_upper = h.seen; place = refl }

module _ (t : Tabs) (s : Buckets) where
  -- as two lists
  apart : (ds vs : List Level) → Held t s (under ds vs) → Held t s (under ds [] ++ vs)
  apart ds vs h = subst (Held t s) (under_is ds vs) h

  pub top_bound : (ds vs : List Level) (x : ℕ) → Top ds x → x ≢ NONE → Held t s (under ds vs) → SlotBound t s x
  top_bound [] vs x e ne h = absurd (ne e)
  top_bound (d ∷ ds) vs x i ne h = slot_bound t s (under ds []) d vs x i (apart ds (d ∷ vs) h)

  pub top_reachable : (ds vs : List Level) (x : ℕ) → Top ds x → Held t s (under ds vs) → Reachable t.buckets x
  top_reachable [] vs x e h ne = absurd (ne e)
  top_reachable (d ∷ ds) vs x i h ne = slot_reachable t s (under ds []) d vs x i (apart ds (d ∷ vs) h) ne

  pub parted_top : (ds vs : List Level) (x : ℕ) → Top ds x → Held t s (under ds vs) → Parted t s (record_of t.buckets x) (under ds []) vs
  parted_top [] vs x e h = rw (e, look_end (owner t.buckets) NONE) (parted_none t s vs h)
  parted_top (d ∷ ds) vs x i h =
      let h' = apart ds (d ∷ vs) h in
      rw (look_at (owner t.buckets) NONE x (slot_some t s (under ds []) d vs x i h'), under_is ds (d ∷ []))
      (parted_over t s (under ds []) d vs x i h')

-- ---- the place of frequency g

join_new : (y g : ℕ) (vs : List Level) → All (λ l. g < l.freq) vs → join y g vs ≡ level g (y ∷ []) ∷ vs
join_new y g [] a = refl
join_new y g (v ∷ vs) a = let l = a.0 in if_other v.freq g _ _ (omega arith)

-- r parts the levels where a slot enters at frequency g, and what it then makes of them
pub record Placed (t : Tabs) (s : Buckets) (r g : ℕ) (ds vs : List Level) : Type 0 where
  pub us : List Level
  pub ws : List Level
  pub parted : Parted t s r us ws
  pub whole : us ++ ws ≡ under ds vs
  pub below : All (λ l. l.freq < g) us
  pub from : All (λ l. g ≤ l.freq) ws
  pub joins : (y : ℕ) → us ++ join y g ws ≡ under (join y g ds) vs

module _ (t : Tabs) (s : Buckets) (g : ℕ) (vs : List Level) (above : All (λ l. g < l.freq) vs) where
  above_le : All (λ l. g ≤ l.freq) vs
  above_le = all_map (λ l. g < l.freq) (λ l. g ≤ l.freq) (λ l q. omega arith) vs above

  module _ (d : Level) (ds : List Level) (x : ℕ) (i : In x d.slots) (h : Held t s (under ds [] ++ d ∷ vs)) where
    abbrev own : ℕ
    own = owner t.buckets x

    -- what is read for the slot goes by the level's frequency
    read : place_above t.buckets x g ≡ cond (eqb d.freq g) (lower t.buckets own) own
    read =
        place_read t.buckets x g (slot_some t s (under ds []) d vs x i h) own refl
        ∙ ap (λ (f : ℕ). cond (eqb f g) (lower t.buckets own) own) (slot_frequency t s (under ds []) d vs x i h)

    order : All (λ u. u.freq < d.freq) (under ds [])
    order = (held_order t s (under ds []) d.freq d.slots vs h).0

    -- the highest level has the frequency already
    placed_there : d.freq ≡ g → Placed t s (place_above t.buckets x g) g (d ∷ ds) vs
    placed_there e = record {
      us = under ds [];
      ws = d ∷ vs;
      parted = rw (read ∙ if_same d.freq g _ _ e) (parted_at t s (under ds []) d vs x i h);
      whole = sym (under_is ds (d ∷ vs));
      below = subst (λ (k : ℕ). All (λ l. l.freq < k) (under ds [])) e order;
      from = (omega arith, above_le);
      joins = λ y.
          ap (λ (ls : List Level). under ds [] ++ ls) (if_same d.freq g _ _ e) ∙ sym (under_is ds (level g (y ∷ d.slots) ∷ vs))
          ∙ sym (ap (λ (es : List Level). under es vs) (if_same d.freq g _ _ e));
    }

    -- it is lower
    placed_over : d.freq < g → Placed t s (place_above t.buckets x g) g (d ∷ ds) vs
    placed_over l =
        let n : d.freq ≢ g = omega arith in
        record {
          us = under ds [] ++ d ∷ [];
          ws = vs;
          parted = rw (read ∙ if_other d.freq g _ _ n) (parted_over t s (under ds []) d vs x i h);
          whole = append_assoc (under ds []) (d ∷ []) vs ∙ sym (under_is ds (d ∷ vs));
          below =
              all_append (λ l. l.freq < g) (under ds []) (d ∷ [])
              (all_map (λ u. u.freq < d.freq) (λ u. u.freq < g) (λ u q. omega arith) (under ds []) order) (l, tt);
          from = above_le;
          joins = λ y.
              ap (λ (ls : List Level). (under ds [] ++ d ∷ []) ++ ls) (join_new y g vs above)
              ∙ append_assoc (under ds []) (d ∷ []) (level g (y ∷ []) ∷ vs)
              ∙ sym (under_is ds (d ∷ level g (y ∷ []) ∷ vs)) ∙ sym (ap (λ (es : List Level). under es vs) (if_other d.freq g _ _ n));
        }

  pub placed : (ds : List Level) (x : ℕ) → Top ds x → height ds ≤ g → Held t s (under ds vs) → Placed t s (place_above t.buckets x g) g ds vs
  placed [] x e low h = record {
    us = [];
    ws = vs;
    parted = rw (e, look_end _ NONE) (parted_none t s vs h);
    whole = refl;
    below = tt;
    from = above_le;
    joins = λ y. join_new y g vs above;
  }
  placed (d ∷ ds) x i low h =
      let h' = apart t s ds (d ∷ vs) h in
      by_eq d.freq g (λ e. placed_there d ds x i h' e) (λ n. placed_over d ds x i h' (omega arith))
