-- A slot enters a level. Its record is there, or comes by the law of the bucket table; then the slot comes to the front of the line.
use mathlib.Core.Path.{◌≡◌, refl, sym, ap, ◌∙◌, subst}
use mathlib.Core.Logic.{inl, inr}
use mathlib.Core.List.{List, [], ◌∷◌, ◌++◌}
use Prim.Native.Nat.{ℕ, ◌<◌, ◌≤◌}
use native.Mathlib.Omega.{arith}
use lib.ListN.{length, get_or}
use Rattle.numbers.specs.Marks.{NONE}
use Rattle.numbers.specs.Frequency.{CEILING}
use Rattle.lists.specs.Lists.{All, Without, final}
use Rattle.lists.proofs.Tests.{if_same, if_other}
use Rattle.lists.proofs.Members.{all_map, all_mid, all_put, all_left, all_right, all_append}
use Rattle.lists.proofs.Maps.{map_cons}
use Rattle.links.specs.declared.Ends.{Ends}
use Rattle.links.proofs.Functions.{look_end}
use Rattle.bucket_table.specs.declared.Buckets.{Buckets}
use Rattle.bucket_table.specs.Records.{Row, row, empty, nums, owner, RecordsHold}
use Rattle.bucket_table.specs.Calls.{Opening, Opened, Opens}
use Rattle.bucket_table.proofs.Rows.{at_spot, above_spot, holds_limit, room}
use Rattle.levels.specs.Levels.{Level, level, Nowhere, join}
use Rattle.levels.specs.Held.{Tabs, tabs, Line, line, rows, view, Missing, LineHeld, Lines, Some, Parted}
use Rattle.levels.specs.Calls.{Attaches, Ready, LevelEnters}
use Rattle.levels.proofs.Lines.{rows_append, view_append, view_all, rows_all, LineIn, lines_fewer}
use Rattle.levels.proofs.Steps.{at}

-- lines that stay while only the records change
same_lines : (f p n b b' : List ℕ) → owner b' ≡ owner b → (ls : List Line) → All (LineHeld f p n b) ls → All (LineHeld f p n b') ls
same_lines f p n b b' e ls h =
    all_map (LineHeld f p n b) (LineHeld f p n b')
    (λ l m. record {
      ring = m.ring;
      own =
          all_map (λ x. (get_or f x 0 ≡ l.row.freq) × (owner b x ≡ l.row.num)) (λ x. (get_or f x 0 ≡ l.row.freq) × (owner b' x ≡ l.row.num)) (λ x o. (o.0, at _ _ x e ∙ o.1))
          l.slots m.own;
    }) ls h

-- a line with no slot
no_slots : (f p n b : List ℕ) (r g : ℕ) → LineHeld f p n b (line (row r g empty) [])
no_slots f p n b r g = record { ring = record { slots = tt; links = (look_end (λ k. get_or n k 0) NONE, look_end (λ k. get_or p k 0) NONE); many = refl }; own = tt }

-- a slot that is in no level is in no line
parted_away : (t : Tabs) (s : Buckets) (at₀ : ℕ) (us vs : List Level) (k : Parted t s at₀ us vs) (x : ℕ) → Nowhere x (us ++ vs) → Missing x (k.lower ++ k.upper)
parted_away t s at₀ us vs k x w =
    all_append (λ v. Without x v.slots) k.lower k.upper (view_all (λ l. Without x l.slots) k.lower us k.seen_lower (all_left (λ l. Without x l.slots) us vs w))
    (view_all (λ l. Without x l.slots) k.upper vs k.seen_upper (all_right (λ l. Without x l.slots) us vs w))

-- the lines with record r of frequency g opened, and what putting x into it makes of the levels
record Ajar (t : Tabs) (s : Buckets) (us : List Line) (r g x : ℕ) (vs : List Line) : Type 0 where
  pub ends : Ends
  pub slots : List ℕ
  pub upper : List Line
  pub rep : Lines t s (us ++ line (row r g ends) slots ∷ upper)
  pub some : All Some (us ++ upper)
  pub away : Missing x (us ++ line (row r g ends) slots ∷ upper)
  pub joins : level g (x ∷ slots) ∷ view upper ≡ join x g (view vs)

module _ (f p n b sp : List ℕ) (s : Buckets) (at₀ g x : ℕ) (b' sp' : List ℕ) (num : ℕ) (s₁ : Buckets) (op : Opens b sp s at₀ g b' sp' num s₁) where
  abbrev e₀ : Tabs
  e₀ = tabs f p n b sp

  abbrev e₁ : Tabs
  e₁ = tabs f p n b' sp'

  module _ (us vs : List Line) (h : Lines e₀ s (us ++ vs)) (some : All Some (us ++ vs)) (away : Missing x (us ++ vs)) where
    lines_of : (ls : List Line) → RecordsHold b' sp' s₁ (rows ls) → All (LineIn e₁) ls → ((k : ℕ) → Missing k ls → Missing k (us ++ vs)) → Lines e₁ s₁ ls
    lines_of ls hs each sub = record { even = h.even; spares_size = op.spares_size ∙ h.spares_size; records = hs; each = each; free = λ k l w. h.free k l (sub k w) }

    still : All (LineIn e₁) (us ++ vs)
    still = same_lines f p n b b' op.owners (us ++ vs) h.each

    -- the level is there
    ajar_there : (e : Ends) (rest : List Row) → rows vs ≡ row num g e ∷ rest → RecordsHold b' sp' s₁ (rows (us ++ vs)) → Ajar e₁ s₁ us num g x vs
    ajar_there e rest q hs =
        let c = map_cons (λ (l : Line). l.row) vs (row num g e) rest q in
        let z : List ℕ = c.0.slots in
        let el : c.0 ≡ line (row num g e) z = λ i. line (c.3 i) z in
        let ev : vs ≡ line (row num g e) z ∷ c.1 = c.2 ∙ ap (λ (l : Line). l ∷ c.1) el in
        record {
          ends = e;
          slots = z;
          upper = c.1;
          rep = subst (λ (ls : List Line). Lines e₁ s₁ (us ++ ls)) ev (lines_of (us ++ vs) hs still (λ k w. w));
          some = (all_mid Some us (line (row num g e) z) c.1 (subst (λ (ls : List Line). All Some (us ++ ls)) ev some)).1;
          away = subst (λ (ls : List Line). Missing x (us ++ ls)) ev away;
          joins = sym (ap (λ (ls : List Line). join x g (view ls)) ev ∙ if_same g g (level g (x ∷ z) ∷ view c.1) (level g (x ∷ []) ∷ level g z ∷ view c.1) refl);
        }

    -- it is new
    ajar_new : All (λ w. g < w.freq) (rows vs) → RecordsHold b' sp' s₁ (rows us ++ row num g empty ∷ rows vs) → Ajar e₁ s₁ us num g x vs
    ajar_new above hs = record {
      ends = empty;
      slots = [];
      upper = vs;
      rep =
          lines_of (us ++ line (row num g empty) [] ∷ vs) (rw (rows_append us (line (row num g empty) [] ∷ vs)) hs)
          (all_put (LineIn e₁) us (line (row num g empty) []) vs (no_slots f p n b' num g) still)
          (λ k w. (all_mid (λ v. Without k v.slots) us (line (row num g empty) []) vs w).1);
      some = some;
      away = all_put (λ v. Without x v.slots) us (line (row num g empty) []) vs tt away;
      joins = new vs above;
    }
      where
        new : (vs : List Line) → All (λ w. g < w.freq) (rows vs) → level g (x ∷ []) ∷ view vs ≡ join x g (view vs)
        new [] a = refl
        new (v ∷ vs) a = let l = a.0 in sym (if_other v.row.freq g (level g (x ∷ v.slots) ∷ view vs) (level g (x ∷ []) ∷ view (v ∷ vs)) (omega arith))

    ajar : at₀ ≡ final NONE (nums (rows us)) → x < length f → 1 ≤ g → g ≤ CEILING → All (λ w. w.freq < g) (rows us) → All (λ w. g ≤ w.freq) (rows vs) → Ajar e₁ s₁ us num g x vs
    ajar ea lx one c hu hv =
        let few = lines_fewer e₀ s (us ++ vs) h some x lx away in
        let o = op.rows (rows us) (rows vs) ea (rw (rows_append us vs) at few) one c hu hv (rw (rows_append us vs) at h.records) in
        go o.0 o.1 o.2
      where
        go : (ws : List Row) → Opened num g (rows vs) ws → RecordsHold b' sp' s₁ (rows us ++ ws) → Ajar e₁ s₁ us num g x vs
        go ws (inl q) hs = ajar_there q.0.0 q.0.1 q.0.2 (rw (rows_append us vs) (subst (λ (l : List Row). RecordsHold b' sp' s₁ (rows us ++ l)) q.1 hs))
        go ws (inr q) hs = ajar_new q.0 (subst (λ (l : List Row). RecordsHold b' sp' s₁ (rows us ++ l)) q.1 hs)

  pub enters : x < length f → (f' p' n' b₂ : List ℕ) → Attaches f p n b' num g x f' p' n' b₂ → LevelEnters e₀ s at₀ g x (tabs f' p' n' b₂ sp') s₁
  enters lx f' p' n' b₂ at₁ = record {
    holds = λ us vs one c hu hv w k.
        let a = ajar k.lower k.upper k.rep k.some (parted_away e₀ s at₀ us vs k x w) k.place lx one c
        (rows_all (λ w. w.freq < g) k.lower (view_all (λ l. l.freq < g) k.lower us k.seen_lower hu))
        (rows_all (λ w. g ≤ w.freq) k.upper (view_all (λ l. g ≤ l.freq) k.upper vs k.seen_upper hv)) in
        let q = at₁.lines sp' s₁ k.lower a.ends a.slots a.upper a.away a.rep in
        record {
          lines = k.lower ++ line (row num g q.0) (x ∷ a.slots) ∷ a.upper;
          rep = q.1;
          some = all_put Some k.lower (line (row num g q.0) (x ∷ a.slots)) a.upper (omega arith) a.some;
          seen = view_append k.lower (line (row num g q.0) (x ∷ a.slots) ∷ a.upper) ∙ (λ i. k.seen_lower i ++ a.joins i) ∙ ap (λ (ls : List Level). us ++ join x g ls) k.seen_upper;
        };
  }

-- what `enter` hands on
module _ (f p n b sp : List ℕ) (s : Buckets) (at₀ x : ℕ) (pre : Ready (tabs f p n b sp) s at₀ x) where
  abbrev g₀ : Tabs
  g₀ = tabs f p n b sp

  pub opening : Opening b sp s at₀
  opening =
      let k = pre.parted in
      let h = k.rep.records in
      let hs : RecordsHold b sp s (rows k.lower ++ rows k.upper) = rw (rows_append k.lower k.upper) at h in
      record {
        making = record {
          size = h.size;
          limit = holds_limit b sp s (rows (k.lower ++ k.upper)) h;
          room = room b sp s (rows (k.lower ++ k.upper)) h (lines_fewer g₀ s (k.lower ++ k.upper) k.rep k.some x pre.slot (parted_away g₀ s at₀ pre.us pre.vs k x pre.away));
          place = rw k.place (at_spot b sp s (rows k.lower) (rows k.upper) hs);
        };
        above = rw k.place (above_spot b sp s (rows k.lower) (rows k.upper) hs);
      }
