-- The search for a place: the walk has passed rows that are all below the frequency. It ends, since the frequencies rise to the ceiling at most.
use mathlib.Core.Path.{◌≡◌, refl, sym, ap, ◌∙◌, subst}
use mathlib.Core.Logic.{◌≢◌, inl, inr}
use mathlib.Core.Bool.{cond}
use mathlib.Core.List.{List, [], ◌∷◌, ◌++◌, append_assoc, append-nil}
use Prim.Native.Nat.{ℕ, ◌+◌, ◌<◌, ◌≤◌, ◌-◌}
use native.Mathlib.Omega.{arith}
use lib.Dec.{eqb}
use Rattle.numbers.specs.Marks.{NONE}
use Rattle.numbers.specs.Frequency.{CEILING}
use Rattle.lists.specs.Lists.{All, final}
use Rattle.lists.proofs.Tests.{if_other, if_eq}
use Rattle.lists.proofs.Members.{all_map, all_append, all_right, final_append}
use Rattle.links.proofs.Functions.{look_end, look_at}
use Rattle.links.specs.declared.Ends.{Ends}
use Rattle.bucket_table.specs.declared.Buckets.{Buckets}
use Rattle.bucket_table.specs.Records.{frequency, higher, up, InTable, Spot, Row, row, empty, nums, row_of, RecordsHold, RecordsSound}
use Rattle.bucket_table.specs.Calls.{HasLevel, Opens, MakesRecord, PlacesRecord}
use Rattle.bucket_table.proofs.One.{row_is}
use Rattle.bucket_table.proofs.Rows.{nums_append, rising_around, above_none, above_row, row_in, row_some, row_written}

pub spot_in : (b : List ℕ) (n : ℕ) → Spot b n → n ≢ NONE → InTable b n
spot_in b n (inl h) ne = h.1
spot_in b n (inr h) ne = absurd (ne h)

pub spot_at : (b : List ℕ) (n v : ℕ) → n ≡ v → Spot b v → Spot b n
spot_at b n v e h = rw e h

-- `above`
pub up_none : (b : List ℕ) (s : Buckets) (k : ℕ) → k ≡ NONE → s.bottom ≡ up b s k
up_none b s k q = sym (ap (up b s) q ∙ look_end (higher b) s.bottom)

pub up_record : (b : List ℕ) (s : Buckets) (k v : ℕ) → k ≢ NONE → v ≡ higher b k → v ≡ up b s k
up_record b s k v ne e = e ∙ sym (look_at (higher b) s.bottom k ne)

-- the rows us are the beginning of all rows that the tables may hold, `at` is the last of their records, and n is next
pub record Standing (b : List ℕ) (s : Buckets) (us : List Row) (at n : ℕ) : Type 0 where
  pub last : at ≡ final NONE (nums us)
  pub next_is : n ≡ up b s at
  pub begins : (sp : List ℕ) (ws : List Row) → RecordsHold b sp s ws → (vs : List Row) × (ws ≡ us ++ vs)

-- how much the frequency can still rise
abbrev pub rise : List ℕ → ℕ → ℕ
rise b n = cond (eqb n NONE) 0 (CEILING + 1 - frequency b n)

pub standing_none : (b : List ℕ) (s : Buckets) (n : ℕ) → s.bottom ≡ n → Standing b s [] NONE n
standing_none b s n e = record { last = refl; next_is = sym e ∙ up_none b s NONE refl; begins = λ sp ws h. (ws, refl) }

module _ (b : List ℕ) (s : Buckets) (us : List Row) (at n : ℕ) (p : Standing b s us at n) where
  -- nothing is next: these are all rows
  pub standing_end : n ≡ NONE → (sp : List ℕ) (ws : List Row) → RecordsHold b sp s ws → ws ≡ us
  standing_end e sp ws h = let q = p.begins sp ws h in go q.0 q.1 (subst (RecordsHold b sp s) q.1 h)
    where
      go : (vs : List Row) → ws ≡ us ++ vs → RecordsHold b sp s (us ++ vs) → ws ≡ us
      go [] q k = q ∙ append-nil us
      go (v ∷ vs) q k = absurd (row_some b sp s us v vs k (sym (above_row b sp s us v vs k) ∙ ap (up b s) (sym p.last) ∙ sym p.next_is ∙ e))

  module _ (ne : n ≢ NONE) where
    -- the next row is what the table says of record n
    pub standing_next : (sp : List ℕ) (ws : List Row) → RecordsHold b sp s ws → (vs : List Row) × (ws ≡ us ++ row_of b n ∷ vs)
    standing_next sp ws h = let q = p.begins sp ws h in go q.0 q.1 (subst (RecordsHold b sp s) q.1 h)
      where
        go : (vs : List Row) → ws ≡ us ++ vs → RecordsHold b sp s (us ++ vs) → (vs : List Row) × (ws ≡ us ++ row_of b n ∷ vs)
        go [] q k = absurd (ne (p.next_is ∙ ap (up b s) p.last ∙ above_none b sp s us k))
        go (v ∷ vs) q k =
            let en : n ≡ v.num = p.next_is ∙ ap (up b s) p.last ∙ above_row b sp s us v vs k in
            let e : v ≡ row_of b n = row_is b v (row_written b sp s us v vs k) ∙ ap (row_of b) (sym en) in
            (vs, q ∙ ap (λ (w : Row). us ++ w ∷ vs) e)

    here : (sp : List ℕ) (k : RecordsSound b sp s) → RecordsHold b sp s (us ++ row_of b n ∷ (standing_next sp k.0 k.1).0)
    here sp k = subst (RecordsHold b sp s) (standing_next sp k.0 k.1).1 k.1

    pub next_in : (sp : List ℕ) → RecordsSound b sp s → (n < NONE) × InTable b n × (1 ≤ frequency b n) × (frequency b n ≤ CEILING)
    next_in sp k =
        let vs = (standing_next sp k.0 k.1).0 in
        let h = here sp k in
        let i = row_in b sp s us (row_of b n) vs h in
        let ri = rising_around 0 us (row_of b n) vs h.rising in
        let l = ri.1 in
        (i.0, i.1, omega arith, ri.2)

    pub standing_more : (m : ℕ) → m ≡ up b s n → Standing b s (us ++ row_of b n ∷ []) n m
    standing_more m em = record {
      last = sym (ap (final NONE) (nums_append us (row_of b n ∷ [])) ∙ final_append NONE (nums us) (n ∷ []));
      next_is = em;
      begins = λ sp ws h. let q = standing_next sp ws h in (q.0, q.1 ∙ sym (append_assoc us (row_of b n ∷ []) q.0));
    }

    pub rise_less : (sp : List ℕ) → RecordsSound b sp s → (m : ℕ) → m ≡ up b s n → rise b m < rise b n
    rise_less sp k m em =
        let c = (next_in sp k).3 in
        rw (if_other n NONE 0 (CEILING + 1 - frequency b n) ne)
        (if_eq (λ z. z < CEILING + 1 - frequency b n) m NONE (λ e. omega arith) (λ d. go (standing_next sp k.0 k.1).0 (here sp k) d))
      where
        go : (vs : List Row) → RecordsHold b sp s (us ++ row_of b n ∷ vs) → m ≢ NONE → CEILING + 1 - frequency b m < CEILING + 1 - frequency b n
        go [] h d = absurd (d (em ∙ ap (up b s) (standing_more m em).last ∙ above_none b sp s (us ++ row_of b n ∷ []) (rw append_assoc h)))
        go (v ∷ vs) h d =
            let h' : RecordsHold b sp s ((us ++ row_of b n ∷ []) ++ v ∷ vs) = rw append_assoc h in
            let ev : m ≡ v.num = em ∙ ap (up b s) (standing_more m em).last ∙ above_row b sp s (us ++ row_of b n ∷ []) v vs h' in
            let ef : frequency b m ≡ v.freq = ap (frequency b) ev ∙ (row_written b sp s (us ++ row_of b n ∷ []) v vs h').freq_is in
            let ri = rising_around 0 (us ++ row_of b n ∷ []) v vs h'.rising in
            let lo = (all_right (λ w. w.freq < v.freq) us (row_of b n ∷ []) ri.0).0 in
            let top = ri.2 in
            omega arith

-- ---- `place`

-- where the search stands: all rows passed are below f
abbrev pub Passed : List ℕ → Buckets → ℕ → ℕ → ℕ → Type 0
Passed b s f at n = (us : List Row) × Standing b s us at n × All (λ w. w.freq < f) us

pub passed_more : (b : List ℕ) (s : Buckets) (f at n : ℕ) (p : Passed b s f at n) → n ≢ NONE → (x m : ℕ) → x ≡ frequency b n → x < f → m ≡ higher b n → Passed b s f n m
passed_more b s f at n p ne x m ex l em = (
  p.0 ++ row_of b n ∷ [],
  standing_more b s p.0 at n p.1 ne m (up_record b s n m ne em),
  all_append (λ w. w.freq < f) p.0 (row_of b n ∷ []) p.2 (rw ex at l, tt),
)

-- two ways to part the rows at f
part_one : (f : ℕ) (us vs us' vs' : List Row) → us ++ vs ≡ us' ++ vs' → All (λ w. w.freq < f) us → All (λ w. f ≤ w.freq) vs → All (λ w. w.freq < f) us' → All (λ w. f ≤ w.freq) vs' → us ≡ us'
part_one f [] vs [] vs' e a b c d = refl
part_one f [] [] (u ∷ us') vs' e a b c d = let z : ◌≡◌ {A = ℕ} 0 1 = cc in absurd (omega arith)
part_one f [] (v ∷ vs) (u ∷ us') vs' e a b c d = let q : v ≡ u = cc in let r = ap (λ (w : Row). w.freq) q in let l = b.0 in let m = c.0 in absurd (omega arith)
part_one f (u ∷ us) vs [] [] e a b c d = let z : ◌≡◌ {A = ℕ} 0 1 = cc in absurd (omega arith)
part_one f (u ∷ us) vs [] (v ∷ vs') e a b c d = let q : u ≡ v = cc in let r = ap (λ (w : Row). w.freq) q in let l = a.0 in let m = d.0 in absurd (omega arith)
part_one f (u ∷ us) vs (u' ∷ us') vs' e a b c d =
    let q : u ≡ u' = cc in
    let r = part_one f us vs us' vs' (cc) a.1 b c.1 d in
    λ i. q i ∷ r i

module _ (b : List ℕ) (s : Buckets) (f at n : ℕ) (p : Passed b s f at n) where
  placed_by : ((sp : List ℕ) (vs : List Row) → RecordsHold b sp s (p.0 ++ vs) → All (λ w. f ≤ w.freq) vs) → PlacesRecord b s f at
  placed_by k = record {
    place = λ sp us vs h hu hv.
        let q = p.1.begins sp (us ++ vs) h in
        let e = part_one f us vs p.0 q.0 q.1 hu hv p.2 (k sp q.0 (subst (RecordsHold b sp s) q.1 h)) in
        p.1.last ∙ ap (λ (l : List Row). final NONE (nums l)) (sym e);
  }

  -- no record is left
  pub placed_end : n ≡ NONE → PlacesRecord b s f at
  placed_end e = placed_by go
    where
      go : (sp : List ℕ) (vs : List Row) → RecordsHold b sp s (p.0 ++ vs) → All (λ w. f ≤ w.freq) vs
      go sp [] h = tt
      go sp (v ∷ vs) h = absurd (row_some b sp s p.0 v vs h (sym (above_row b sp s p.0 v vs h) ∙ ap (up b s) (sym p.1.last) ∙ sym p.1.next_is ∙ e))

  -- the next record is not below f
  pub placed_here : n ≢ NONE → (x : ℕ) → x ≡ frequency b n → f ≤ x → PlacesRecord b s f at
  placed_here ne x ex l = placed_by go
    where
      go : (sp : List ℕ) (vs : List Row) → RecordsHold b sp s (p.0 ++ vs) → All (λ w. f ≤ w.freq) vs
      go sp [] h = tt
      go sp (v ∷ vs) h =
          let en : n ≡ v.num = p.1.next_is ∙ ap (up b s) p.1.last ∙ above_row b sp s p.0 v vs h in
          let e : x ≡ v.freq = ex ∙ ap (frequency b) en ∙ (row_written b sp s p.0 v vs h).freq_is in
          let above = (rising_around 0 p.0 v vs h.rising).3 in
          (omega arith, all_map (λ w. v.freq < w.freq) (λ w. f ≤ w.freq) (λ w q. omega arith) vs above)

-- ---- `ensure`

module _ (b sp : List ℕ) (s : Buckets) (at g n : ℕ) (en : n ≡ up b s at) where
  -- the record is there
  pub opens_there : Spot b (up b s at) → HasLevel b n g → Opens b sp s at g b sp n s
  opens_there sp₀ l = record {
    number_in = spot_in b n (rw en sp₀) l.0;
    size = refl;
    spares_size = refl;
    owners = refl;
    rows = λ us vs ea few one c hu hv h. (vs, inl (go us vs ea h, refl), h);
  }
    where
      go : (us vs : List Row) → at ≡ final NONE (nums us) → RecordsHold b sp s (us ++ vs) → (e : Ends) × (rest : List Row) × (vs ≡ row n g e ∷ rest)
      go us [] ea h = absurd (l.0 (en ∙ ap (up b s) ea ∙ above_none b sp s us h))
      go us (v ∷ vs) ea h =
          let e : v.num ≡ n = sym (en ∙ ap (up b s) ea ∙ above_row b sp s us v vs h) in
          let f : v.freq ≡ g = sym (row_written b sp s us v vs h).freq_is ∙ ap (frequency b) e ∙ l.1 in
          (v.ends, vs, λ i. row (e i) (f i) v.ends ∷ vs)

  -- it is not, and is made
  pub opens_new : (HasLevel b n g → ⊥) → (b' sp' : List ℕ) (q : ℕ) (s' : Buckets) → MakesRecord b sp s at g b' sp' q s' → Opens b sp s at g b' sp' q s'
  opens_new l b' sp' q s' d = record {
    number_in = d.number_in;
    size = d.size;
    spares_size = d.spares_size;
    owners = d.owners;
    rows = λ us vs ea few one c hu hv h.
        let above = go us vs ea h hv in (row q g empty ∷ vs, inr (above, refl), d.rows us vs ea few one c hu above h);
  }
    where
      go : (us vs : List Row) → at ≡ final NONE (nums us) → RecordsHold b sp s (us ++ vs) → All (λ w. g ≤ w.freq) vs → All (λ w. g < w.freq) vs
      go us [] ea h a = tt
      go us (v ∷ vs) ea h a =
          let e : v.num ≡ n = sym (en ∙ ap (up b s) ea ∙ above_row b sp s us v vs h) in
          let ne : v.freq ≢ g = λ c. l ((λ q. row_some b sp s us v vs h (e ∙ q)), ap (frequency b) (sym e) ∙ (row_written b sp s us v vs h).freq_is ∙ c) in
          let le = a.0 in
          let above = (rising_around 0 us v vs h.rising).3 in
          (omega arith, all_map (λ w. v.freq < w.freq) (λ w. g < w.freq) (λ w q. omega arith) vs above)
