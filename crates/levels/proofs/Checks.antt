-- The check of all levels: the lines passed are the beginning of all lines that there may be, and at the end as many slots were met as are not
-- marked free. Counting then says that no other slot is bound.
use mathlib.Core.Path.{◌≡◌, refl, sym, ap, ◌∙◌, subst}
use mathlib.Core.Bool.{true, false, not}
use mathlib.Core.Logic.{◌≢◌}
use mathlib.Core.List.{List, [], ◌∷◌, ◌++◌, append_assoc, append-nil, append_cancel_left}
use Prim.Native.Nat.{ℕ, ◌+◌, ◌*◌, ◌<◌, ◌≤◌}
use native.Mathlib.Omega.{arith}
use lib.ListN.{length, get_or, length-append}
use lib.Dec.{eqb}
use borrow.Author.Tests.{eq-eqb, ne_eqb, eqb-true}
use Rattle.std.specs.Prelude as prelude
use Rattle.numbers.specs.Marks.{NONE}
use Rattle.lists.specs.Lists.{All, In, times}
use Rattle.lists.proofs.Tests.{neither, by_eq}
use Rattle.lists.proofs.Members.{all_append, all_mid, all_of, in_without, times_in, times_without}
use Rattle.lists.proofs.Maps.{map_cons}
use Rattle.lists.specs.Marks.{count}
use Rattle.lists.proofs.Pigeonhole.{marked_all, marked_cover}
use Rattle.links.proofs.Lists.{ring_one}
use Rattle.links.specs.Linked.{linked}
use Rattle.bucket_table.specs.declared.Buckets.{Buckets}
use Rattle.bucket_table.specs.Records.{WORDS, row_of, up, RecordsHold, RecordsSound}
use Rattle.bucket_table.proofs.Rows.{nums_distinct}
use Rattle.bucket_table.proofs.Places.{Standing, standing_none, standing_end, standing_next, standing_more}
use Rattle.levels.specs.Levels.{members}
use Rattle.levels.specs.Held.{Tabs, tabs, Line, line, rows, view, Missing, LineHeld, Even, Lines, Some, LevelsSound}
use Rattle.levels.specs.Check.{taken, Clean, ListWalk, LevelsWalk, LevelsSized, ListedSo}
use Rattle.levels.proofs.Lines.{rows_append, LineIn, lines_room, slots_distinct, slots_below, missing_members, members_missing, lines_distinct, lines_below}
use Rattle.levels.proofs.One.{free_missing}

-- ---- lines and marks

module _ (t : Tabs) (ls : List Line) (room : length t.prevs ≤ NONE) (each : All (LineIn t) ls) where
  -- the slots of the lines are not marked free
  members_taken : All (λ x. taken t.nexts x ≡ true) (members (view ls))
  members_taken =
      all_of (λ x. taken t.nexts x ≡ true) (members (view ls)) (λ x i.
      by_eq (get_or t.nexts x 0) x (λ e. absurd (in_without x (members (view ls)) i (missing_members x ls (free_missing t ls room each x e))))
      (λ d. ap not (ne_eqb (get_or t.nexts x 0) x d)))

-- lines hold as many slots as are not marked free
pub held_count : (t : Tabs) (s : Buckets) (ls : List Line) → Lines t s ls → length (members (view ls)) ≡ count (taken t.nexts) (length t.nexts)
held_count t s ls h =
    let z = h.even.nexts_size in
    rw z
    (marked_cover (taken t.nexts) (length t.freqs) (members (view ls)) (lines_distinct t s ls h) (lines_below t s ls h) (members_taken t ls (lines_room t s ls h) h.each)
    (λ x l m. go x l m))
  where
    go : (x : ℕ) → x < length t.freqs → taken t.nexts x ≡ true → In x (members (view ls))
    go x l m =
        by_eq (times x (members (view ls))) 0
        (λ e.
        let free = h.free x l (members_missing x ls (times_without x (members (view ls)) e)) in
        absurd (neither (taken t.nexts x) m (ap not (eq-eqb (get_or t.nexts x 0) x free.next_own))))
        (λ d. times_in x (members (view ls)) (omega arith))

-- ---- the walk of all records

-- the lines passed, and how many slots may still come
pub record Climb (f p n b : List ℕ) (s : Buckets) (bound number left : ℕ) : Type 0 where
  pub at : ℕ
  pub done : List Line
  pub standing : Standing b s (rows done) at number
  pub each : All (LineHeld f p n b) done
  pub some : All Some done
  pub spent : left + length (members (view done)) ≡ bound
  pub begins : (sp : List ℕ) (ls : List Line) → Lines (tabs f p n b sp) s ls → (rest : List Line) × (ls ≡ done ++ rest)

members_append : (us vs : List Line) → members (view (us ++ vs)) ≡ members (view us) ++ members (view vs)
members_append [] vs = refl
members_append (u ∷ us) vs = ap (λ (l : List ℕ). u.slots ++ l) (members_append us vs) ∙ sym (append_assoc u.slots (members (view us)) (members (view vs)))

pub climb_start : (f p n b : List ℕ) (s : Buckets) (bound : ℕ) → Climb f p n b s bound s.bottom bound
climb_start f p n b s bound = record {
  at = NONE;
  done = [];
  standing = standing_none b s s.bottom refl;
  each = tt;
  some = tt;
  spent = omega arith;
  begins = λ sp ls h. (ls, refl);
}

module _ (f p n b : List ℕ) (s : Buckets) (bound number left : ℕ) (z : LevelsSized f p n b) (w : Climb f p n b s bound number left) where
  fits : length p ≤ NONE
  fits = let a = z.even.limit in let c = z.even.prevs_size in omega arith

  -- the line that comes next in lines that there may be
  next_line : number ≢ NONE → (sp : List ℕ) (ls : List Line) → Lines (tabs f p n b sp) s ls → (xs : List ℕ) × (rest : List Line) × (ls ≡ w.done ++ line (row_of b number) xs ∷ rest)
  next_line ne sp ls h =
      let q = w.begins sp ls h in
      let r = standing_next b s (rows w.done) w.at number w.standing ne sp (rows ls) h.records in
      let e : rows q.0 ≡ row_of b number ∷ r.0 =
      append_cancel_left (rows w.done) (rows q.0) (row_of b number ∷ r.0) (sym (rows_append w.done q.0) ∙ ap rows (sym q.1) ∙ r.1) in
      let c = map_cons (λ (l : Line). l.row) q.0 (row_of b number) r.0 e in
      let el : c.0 ≡ line (row_of b number) c.0.slots = λ i. line (c.3 i) c.0.slots in
      (c.0.slots, c.1, q.1 ∙ ap (λ (l : List Line). w.done ++ l) (c.2 ∙ ap (λ (l : Line). l ∷ c.1) el))

  -- its slots, if no line is empty
  next_listed : number ≢ NONE → (sp : List ℕ) (ls : List Line) → Lines (tabs f p n b sp) s ls → All Some ls → (xs : List ℕ) × ListedSo f p n b number xs × (length (members (view w.done)) + length xs ≤ length (members (view ls)))
  next_listed ne sp ls h some =
      let q = next_line ne sp ls h in
      let l : Line = line (row_of b number) q.0 in
      let c = ap (λ (k : List Line). length (members (view k))) q.2 ∙ ap length (members_append w.done (l ∷ q.1)) in (
        q.0,
        record {
          held = (all_mid (LineHeld f p n b) w.done l q.1 (subst (All (LineHeld f p n b)) q.2 h.each)).0;
          some = (all_mid Some w.done l q.1 (subst (All Some) q.2 some)).0;
        },
        omega (arith, length-append (members (view w.done)) (members (view (l ∷ q.1))), length-append q.0 (members (view q.1))),
      )

  pub levels_bad : number ≢ NONE → ListWalk f p n b number left prelude.None → LevelsWalk f p n b s bound false
  levels_bad ne none = record {
    good = λ sp _ _ _ _ q. absurd (neither false q refl);
    all = λ sp eb k.
        let h = k.1 in
        let q = next_listed ne sp h.lines h.rep h.some in
        let c = held_count (tabs f p n b sp) s h.lines h.rep in
        let m = q.2 in let a = w.spent in
        absurd (none q.0 q.1 (omega arith));
  }

  pub climb_on : number ≢ NONE → (rest : ℕ) → ListWalk f p n b number left (prelude.Some rest) → (m : ℕ) → m ≡ up b s number → Climb f p n b s bound m rest
  climb_on ne rest g m em =
      let l : Line = line (row_of b number) g.0 in
      let a = w.spent in let c = g.2 in
      let d = ap length (members_append w.done (l ∷ [])) in
      record {
        at = number;
        done = w.done ++ l ∷ [];
        standing = rw (rows_append w.done (l ∷ [])) (standing_more b s (rows w.done) w.at number w.standing ne m em);
        each = all_append (LineHeld f p n b) w.done (l ∷ []) w.each (g.1.held, tt);
        some = all_append Some w.done (l ∷ []) w.some (g.1.some, tt);
        spent = omega (arith, length-append (members (view w.done)) (members (view (l ∷ []))), length-append g.0 []);
        begins = λ sp ls h.
            let q = next_line ne sp ls h in
            let there : LineHeld f p n b (line (row_of b number) q.0) = (all_mid (LineHeld f p n b) w.done (line (row_of b number) q.0) q.1 (subst (All (LineHeld f p n b)) q.2 h.each)).0 in
            let es = ring_one (linked p n (row_of b number).ends) fits q.0 g.0 there.ring g.1.held.ring in
            (q.1, q.2 ∙ ap (λ (xs : List ℕ). w.done ++ line (row_of b number) xs ∷ q.1) es ∙ sym (append_assoc w.done (l ∷ []) q.1));
      }

  -- all records were walked
  pub levels_done : number ≡ NONE → LevelsWalk f p n b s bound (eqb left 0)
  levels_done e = record { good = found; all = met }
    where
      met : (sp : List ℕ) → bound ≡ count (taken n) (length n) → LevelsSound (tabs f p n b sp) s → eqb left 0 ≡ true
      met sp eb k =
          let h = k.1 in
          let q = w.begins sp h.lines h.rep in
          let r = standing_end b s (rows w.done) w.at number w.standing e sp (rows h.lines) h.rep.records in
          let er : rows q.0 ≡ [] = append_cancel_left (rows w.done) (rows q.0) [] (sym (rows_append w.done q.0) ∙ ap rows (sym q.1) ∙ r ∙ sym (append-nil (rows w.done))) in
          let ez : h.lines ≡ w.done = q.1 ∙ none q.0 er in
          let c = held_count (tabs f p n b sp) s h.lines h.rep in
          let d = ap (λ (ls : List Line). length (members (view ls))) ez in let a = w.spent in
          eq-eqb left 0 (omega arith)
        where
          none : (rest : List Line) → rows rest ≡ [] → w.done ++ rest ≡ w.done
          none [] q = append-nil w.done
          none (l ∷ rest) q = let z : ◌≡◌ {A = ℕ} 0 1 = cc in absurd (omega arith)

      found : (sp : List ℕ) → bound ≡ count (taken n) (length n) → Clean f p n (length f) → RecordsSound b sp s → length sp ≡ length f → eqb left 0 ≡ true → LevelsSound (tabs f p n b sp) s
      found sp eb cl so es q =
          let er = standing_end b s (rows w.done) w.at number w.standing e sp so.0 so.1 in
          let hs : RecordsHold b sp s (rows w.done) = subst (RecordsHold b sp s) er so.1 in
          let t = tabs f p n b sp in
          let a = w.spent in let c = eqb-true left 0 q in let z₁ = z.even.nexts_size in (
            view w.done,
            record {
              lines = w.done;
              rep = record {
                even = z.even;
                spares_size = es;
                records = hs;
                each = w.each;
                free = λ k l m. cl k l (own hs k l m (subst (λ (i : ℕ). length (members (view w.done)) ≡ count (taken n) i) z₁ (omega arith)));
              };
              some = w.some;
              seen = refl;
            },
          )
        where
          own : RecordsHold b sp s (rows w.done) → (k : ℕ) → k < length f → Missing k w.done → length (members (view w.done)) ≡ count (taken n) (length f) → get_or n k 0 ≡ k
          own hs k l m c =
              by_eq (get_or n k 0) k (λ e. e)
              (λ d.
              let i = marked_all (taken n) (length f) (members (view w.done)) (slots_distinct (tabs f p n b sp) fits w.done (nums_distinct b sp s (rows w.done) hs) w.each)
              (subst (λ (c : ℕ). All (λ x. x < c) (members (view w.done))) z.even.prevs_size (slots_below (tabs f p n b sp) w.done w.each))
              (members_taken (tabs f p n b sp) w.done fits w.each) c k l (ap not (ne_eqb (get_or n k 0) k d)) in
              absurd (in_without k (members (view w.done)) i (missing_members k w.done m)))

-- ---- `is_sound`

-- the slots that are marked free have nothing else in their cells
pub held_clean : (t : Tabs) (s : Buckets) → LevelsSound t s → Clean t.freqs t.prevs t.nexts (length t.freqs)
held_clean t s k x l e =
    let h = k.1 in h.rep.free x l (free_missing t h.lines (lines_room t s h.lines h.rep) h.rep.each x e)

pub sized : (f p n b sp : List ℕ) → Even f p n → length sp ≡ length f → length b ≡ length sp * WORDS → LevelsSized f p n b
sized f p n b sp e es eb = record { even = e; size = omega arith }
