-- What is known of the levels that the tables hold, for the layers above: at most one list of levels is held, it is in order, its slots are
-- distinct, the cells of a slot say its frequency and the slot after it, and the slots of no level are those whose next slot is their own number.
use mathlib.Core.Path.{◌≡◌, refl, sym, ap, ◌∙◌, subst}
use mathlib.Core.Logic.{◌≢◌, ◌↔◌, ⊎_elim}
use mathlib.Core.List.{List, [], ◌∷◌, ◌++◌}
use Prim.Native.Nat.{ℕ, ◌<◌, ◌≤◌}
use native.Mathlib.Omega.{arith}
use lib.ListN.{length, get_or}
use Rattle.numbers.specs.Marks.{NONE}
use Rattle.lists.specs.Lists.{All, In, Without, Distinct, times}
use Rattle.lists.proofs.Tests.{by_eq}
use Rattle.lists.proofs.Members.{times_in, times_without, in_either, all_map, all_right, all_of, in_split}
use Rattle.links.specs.Ring.{Links}
use Rattle.links.specs.declared.Ends.{Ends}
use Rattle.links.specs.Linked.{next, prev, Ring, linked}
use Rattle.links.proofs.Functions.{look_at}
use Rattle.links.proofs.Rings.{past}
use Rattle.links.proofs.Lists.{ring_one, ring_once, ring_slot}
use Rattle.bucket_table.specs.declared.Buckets.{Buckets}
use Rattle.bucket_table.specs.Records.{Row, row, RowsRise}
use Rattle.bucket_table.proofs.One.{holds_one}
use Rattle.levels.specs.Levels.{Level, level, members, Nowhere, first, LevelsRise}
use Rattle.levels.specs.Held.{Tabs, Line, line, rows, view, Missing, Lines, Some, Held}
use Rattle.levels.proofs.Lines.{view_all, all_view, LineIn, lines_room, line_in, split_held, member_own, members_nowhere, lines_distinct, lines_below}
use Rattle.levels.specs.Calls.{SlotBound}

-- ---- one reading

lines_one : (t : Tabs) → length t.prevs ≤ NONE → (ks ls : List Line) → rows ks ≡ rows ls → All (LineIn t) ks → All (LineIn t) ls → ks ≡ ls
lines_one t room [] [] e h g = refl
lines_one t room [] (l ∷ ls) e h g = let z : ◌≡◌ {A = ℕ} 0 1 = cc in absurd (omega arith)
lines_one t room (k ∷ ks) [] e h g = let z : ◌≡◌ {A = ℕ} 0 1 = cc in absurd (omega arith)
lines_one t room (k ∷ ks) (l ∷ ls) e h g =
    let er : k.row ≡ l.row = cc in
    let r = lines_one t room ks ls (cc) h.1 g.1 in
    let there : Ring (linked t.prevs t.nexts k.row.ends) l.slots = subst (λ (w : Row). Ring (linked t.prevs t.nexts w.ends) l.slots) (sym er) g.0.ring in
    let es = ring_one (linked t.prevs t.nexts k.row.ends) room k.slots l.slots h.0.ring there in
    λ i. line (er i) (es i) ∷ r i

pub lines_same : (t : Tabs) (s : Buckets) (ks ls : List Line) → Lines t s ks → Lines t s ls → ks ≡ ls
lines_same t s ks ls h g = lines_one t (lines_room t s ks h) ks ls (holds_one t.buckets t.spares s (rows ks) (rows ls) h.records g.records) h.each g.each

pub held_one : (t : Tabs) (s : Buckets) (ks ls : List Level) → Held t s ks → Held t s ls → ks ≡ ls
held_one t s ks ls h g = sym h.seen ∙ ap view (lines_same t s h.lines g.lines h.rep g.rep) ∙ g.seen

-- ---- the slots of the levels

module _ (t : Tabs) (s : Buckets) (ls : List Level) (h : Held t s ls) where
  pub held_distinct : Distinct (members ls)
  held_distinct = subst (λ (k : List Level). Distinct (members k)) h.seen (lines_distinct t s h.lines h.rep)

  pub held_below : All (λ x. x < length t.freqs) (members ls)
  held_below = subst (λ (k : List Level). All (λ x. x < length t.freqs) (members k)) h.seen (lines_below t s h.lines h.rep)

  -- the frequencies rise, and no level is empty
  pub held_rising : LevelsRise 0 ls
  held_rising = subst (LevelsRise 0) h.seen (go 0 h.lines h.rep.records.rising h.some)
    where
      go : (f : ℕ) (ks : List Line) → RowsRise f (rows ks) → All Some ks → LevelsRise f (view ks)
      go f [] r a = tt
      go f (k ∷ ks) r a = (r.0, r.1, a.0, go k.row.freq ks r.2 a.1)

-- where a member stands
pub member_at : (x : ℕ) (ls : List Level) → In x (members ls) → (us : List Level) × (f : ℕ) × (xs : List ℕ) × (ys : List ℕ) × (vs : List Level) × (ls ≡ us ++ level f (xs ++ x ∷ ys) ∷ vs)
member_at x [] i = elim i [ ]
member_at x (l ∷ ls) i =
    ⊎_elim (λ j. let k = in_split x l.slots j in ([], l.freq, k.before, k.after, ls, λ i. level l.freq (k.is i) ∷ ls))
    (λ j. let r = member_at x ls j in (l ∷ r.0, r.1, r.2, r.3, r.4, ap (λ (k : List Level). l ∷ k) r.5)) (in_either x l.slots (members ls) i)

pub bound_of : (t : Tabs) (s : Buckets) (ls : List Level) → Held t s ls → (x : ℕ) → In x (members ls) → SlotBound t s x
bound_of t s ls h x i = let r = member_at x ls i in record { us = r.0; freq = r.1; xs = r.2; ys = r.3; vs = r.4; held = subst (Held t s) r.5 h }

-- a member is a slot of the tables, and has the level's frequency
pub held_own : (t : Tabs) (s : Buckets) (us : List Level) (f : ℕ) (xs : List ℕ) (x : ℕ) (ys : List ℕ) (vs : List Level) → Held t s (us ++ level f (xs ++ x ∷ ys) ∷ vs)
    → (x < length t.freqs) × (get_or t.freqs x 0 ≡ f)
held_own t s us f xs x ys vs h =
    let k = split_held t s us f (xs ++ x ∷ ys) vs h in let m = member_own t s us f xs x ys vs k.0 k.1 in (m.0, m.1)

-- ---- the slot after one

-- a slot's next one is the head of what follows it
ring_next : (p n : List ℕ) (e : Ends) → length p ≤ NONE → (us : List ℕ) (x : ℕ) (vs : List ℕ) → Ring (linked p n e) (us ++ x ∷ vs) → get_or n x 0 ≡ first vs
ring_next p n e room us x vs h =
    let l = ring_slot (linked p n e) room us x vs h in
    sym (look_at (λ k. get_or n k 0) e.head x (omega arith)) ∙ go vs (past (next (linked p n e)) (prev (linked p n e)) NONE us (x ∷ vs) NONE h.links).2
  where
    go : (vs : List ℕ) → Links (next (linked p n e)) (prev (linked p n e)) x vs NONE → next (linked p n e) x ≡ first vs
    go [] l = l.0
    go (v ∷ vs) l = l.0

-- and so is never the slot itself
next_other : (p n : List ℕ) (e : Ends) → length p ≤ NONE → (us : List ℕ) (x : ℕ) (vs : List ℕ) → Ring (linked p n e) (us ++ x ∷ vs) → get_or n x 0 ≢ x
next_other p n e room us x vs h q = go vs (ring_next p n e room us x vs h) (ring_once (linked p n e) room us x vs h)
  where
    go : (vs : List ℕ) → get_or n x 0 ≡ first vs → Without x (us ++ vs) → ⊥
    go [] w o = let l = ring_slot (linked p n e) room us x vs h in omega arith
    go (v ∷ vs) w o = (all_right (λ y. y ≢ x) us (v ∷ vs) o).0 (sym w ∙ q)

pub held_next : (t : Tabs) (s : Buckets) (us : List Level) (f : ℕ) (xs : List ℕ) (x : ℕ) (ys : List ℕ) (vs : List Level) → Held t s (us ++ level f (xs ++ x ∷ ys) ∷ vs) → get_or t.nexts x 0 ≡ first ys
held_next t s us f xs x ys vs h =
    let q = split_held t s us f (xs ++ x ∷ ys) vs h in
    let k = q.1 in
    let l : Line = line (row q.0 f k.ends) (xs ++ x ∷ ys) in
    ring_next t.prevs t.nexts k.ends (lines_room t s (k.lower ++ l ∷ k.upper) k.rep) xs x ys (line_in t s k.lower l k.upper k.rep).ring

-- ---- the free slots

pub free_missing : (t : Tabs) (ls : List Line) → length t.prevs ≤ NONE → All (LineIn t) ls → (x : ℕ) → get_or t.nexts x 0 ≡ x → Missing x ls
free_missing t ls room h x e =
    all_map (LineIn t) (λ l. Without x l.slots)
    (λ l m. all_of (λ y. y ≢ x) l.slots (λ y i q.
    let k = in_split y l.slots i in
    next_other t.prevs t.nexts l.row.ends room k.before y k.after (subst (Ring (linked t.prevs t.nexts l.row.ends)) k.is m.ring) (rw q e))) ls h

pub free_nowhere : (t : Tabs) (s : Buckets) (ls : List Level) → Held t s ls → (x : ℕ) → get_or t.nexts x 0 ≡ x → Nowhere x ls
free_nowhere t s ls h x e =
    all_view (λ l. Without x l.slots) h.lines ls h.seen (free_missing t h.lines (lines_room t s h.lines h.rep) h.rep.each x e)

-- a slot is in no level exactly when its next slot is its own number
pub free_exact : (t : Tabs) (s : Buckets) (ls : List Level) → Held t s ls → (x : ℕ) → x < length t.freqs → (get_or t.nexts x 0 ≡ x) ↔ Nowhere x ls
free_exact t s ls h x l = (
  free_nowhere t s ls h x,
  λ w. (h.rep.free x l (view_all (λ k. Without x k.slots) h.lines ls h.seen w)).next_own,
)

-- so a slot that is not marked free is in a level
pub taken_bound : (t : Tabs) (s : Buckets) (ls : List Level) → Held t s ls → (x : ℕ) → x < length t.freqs → get_or t.nexts x 0 ≢ x → SlotBound t s x
taken_bound t s ls h x l ne =
    by_eq (times x (members ls)) 0
    (λ e. absurd (ne ((free_exact t s ls h x l).1 (members_nowhere x ls (times_without x (members ls) e)))))
    (λ d. bound_of t s ls h x (times_in x (members ls) (omega arith)))
