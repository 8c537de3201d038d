-- A walker goes through the ledger's list: after n steps it stands at the list's place n, and so it shows exactly the list, then "no more",
-- and then ABSENT. Carried by one law: from where the list has place n, the ledger's step leads to place n + 1.
use mathlib.Core.Path.{◌≡◌, refl, sym, ap, ◌∙◌, subst}
use mathlib.Core.Bool.{true, false}
use mathlib.Core.List.{List, [], ◌∷◌, ◌++◌, append_assoc}
use Prim.Native.Nat.{ℕ, ◌+◌, ◌≤◌, ◌-◌}
use native.Mathlib.Omega.{arith}
use Rattle.numbers.specs.Marks.{NONE}
use Rattle.numbers.specs.declared.Refusal.{Refusal}
use Rattle.lists.specs.Lists.{All}
use Rattle.lists.proofs.Tests.{if_eq, if_same, if_other, by_eq, neither}
use Rattle.lists.proofs.Members.{all_mid}
use Rattle.ledger.specs.Ledger.{Ledger, Item, WellFormed}
use Rattle.ledger.specs.Buckets.{refused}
use Rattle.ledger.specs.Walk.{Step, here, no_more, absent, list_of, head, start, step}
use Rattle.ledger.proofs.Walked.{list_of_frequency, step_at, step_outside}
use Rattle.promise.specs.Promise.{over, short, corrupt, ledger, Reads, By}
use Rattle.promise.proofs.Agree.{reads_one}
use Rattle.buckets_tables.specs.declared.State.{State}
use Rattle.buckets_tables.specs.Tables.{Tables, tables, Sized}
use Rattle.buckets_tables.specs.Holds.{Holds}
use Rattle.buckets_tables.specs.Lent as lent
use Rattle.buckets_tables.proofs.Read.{holds_one}
use Rattle.std.proofs.Common.{Result, Ok, Err, Option, Some, None}
use Rattle.std.specs.Result.{is_err}
use Rattle.numbers.specs.declared.Slot.{Slot}
use Rattle.answers.specs.Replies.{reached_reply}
use Rattle.answers.proofs.Injective.{reached_injective}
use Rattle.buckets_walk.specs.Walks.{slot_of}
use Rattle.frequency_buckets_walker.specs.declared.Stand.{Stand}
use Rattle.frequency_buckets_walker.specs.Stands.{NOWHERE, stand_of}
use Rattle.frequency_buckets_walker.specs.Walks.{shows, Reaches, Stands, Starts, Steps, Linked, nth_of, Nth}
use Rattle.frequency_buckets_walker.proofs.Answers.{stands_by}

-- the slot that a walker stands at which stands where the ledger's walk does
abbrev slot_at : Step → ℕ
slot_at st = (stand_of (slot_of st)).slot.0

-- ---- places of a list

nth_first : (xs : List Item) → head xs ≡ nth_of xs 0
nth_first [] = sym (if_same 0 0 no_more absent refl)
nth_first (x ∷ xs) = sym (if_same 0 0 (here x) (nth_of xs (0 - 1)) refl)

-- beyond the end there is nothing more
nth_beyond : (xs : List Item) (m n : ℕ) → nth_of xs m ≡ absent → m ≤ n → nth_of xs n ≡ absent
nth_beyond [] m n e h =
    by_eq m 0 (λ q. let c : ◌≡◌ {A = ℕ} 0 1 = go (sym (if_same m 0 no_more absent q) ∙ e) in absurd (omega arith)) (λ d. if_other n 0 no_more absent (λ q. omega arith))
  where
    go : no_more ≡ absent → ◌≡◌ {A = ℕ} 0 1
    go q = cc
nth_beyond (x ∷ xs) m n e h =
    by_eq m 0 (λ q. let c : ◌≡◌ {A = ℕ} 0 1 = go (sym (if_same m 0 (here x) (nth_of xs (m - 1)) q) ∙ e) in absurd (omega arith))
    (λ d. if_other n 0 (here x) (nth_of xs (n - 1)) (λ q. omega arith) ∙ nth_beyond xs (m - 1) (n - 1) (sym (if_other m 0 (here x) (nth_of xs (m - 1)) d) ∙ e) (omega arith))
  where
    go : here x ≡ absent → ◌≡◌ {A = ℕ} 0 1
    go q = cc

module _ (l : Ledger) (w : WellFormed l) (limit : l.capacity ≤ NONE) (g : ℕ) where
  -- from a slot of the list to the one behind it
  pub step_on : (ps : List Item) (x : Item) (xs : List Item) → list_of g l.levels ≡ ps ++ x ∷ xs → step x.slot l ≡ head xs
  step_on ps x xs e =
      let own : x.frequency ≡ g = (all_mid (λ (y : Item). y.frequency ≡ g) ps x xs (subst (λ (ys : List Item). All (λ (y : Item). y.frequency ≡ g) ys) e (list_of_frequency g l.levels))).0 in
      step_at l w ps x xs (ap (λ (h : ℕ). list_of h l.levels) own ∙ e)

  -- from out of range
  pub step_out : step NOWHERE l ≡ absent
  step_out = step_outside l w NOWHERE (omega arith)

  step_nth : (ps xs : List Item) → list_of g l.levels ≡ ps ++ xs → (n : ℕ) → step (slot_at (nth_of xs n)) l ≡ nth_of xs (n + 1)
  step_nth ps [] e n =
      let end = if_other (n + 1) 0 no_more absent (λ q. omega arith) in
      if_eq (λ st. step (slot_at st) l ≡ nth_of [] (n + 1)) n 0 (λ q. step_out ∙ sym end) (λ d. step_out ∙ sym end)
  step_nth ps (x ∷ xs) e n =
      let past = if_other (n + 1) 0 (here x) (nth_of xs (n + 1 - 1)) (λ q. omega arith) in
      let ih = step_nth (ps ++ x ∷ []) xs (e ∙ sym (append_assoc ps (x ∷ []) xs)) (n - 1) in
      if_eq (λ st. step (slot_at st) l ≡ nth_of (x ∷ xs) (n + 1)) n 0
      (λ q. step_on ps x xs e ∙ nth_first xs ∙ sym (past ∙ ap (nth_of xs) (omega arith)))
      (λ d. ih ∙ sym (past ∙ ap (nth_of xs) (omega arith)))

-- ---- what a promise says of the walker

refused_so : (a : Result (Option Slot) Refusal) (w : Refusal) → reached_reply a ≡ refused w → is_err a ≡ true
refused_so (Ok (Some x)) w e = let c : ◌≡◌ {A = ℕ} 0 1 = cc in absurd (omega arith)
refused_so (Ok None) w e = let c : ◌≡◌ {A = ℕ} 0 1 = cc in absurd (omega arith)
refused_so (Err a) w e = refl

absent_so : (st : Step) → is_err (slot_of st) ≡ true → st ≡ absent
absent_so (here x) e = absurd (neither false e refl)
absent_so no_more e = absurd (neither false e refl)
absent_so absent e = refl

module _ (t : Tables) (s : State) (walk walk' : Ledger → Step) (r : Stand) where
  -- a walker that stands as the one walk does stands as the other does, where the tables hold no ledger, or one on which they agree
  stands_alike : ((l : Ledger) → Holds t s l → r.answer ≡ slot_of (walk l) → walk l ≡ walk' l) → Stands t s walk r → Stands t s walk' r
  stands_alike same h = record { promised = go h.promised; stands = h.stands }
    where
      go : Reaches t s walk r.answer → Reaches t s walk' r.answer
      go (over, v, y) = (over, v, y)
      go (short, v, y) = (short, v, y)
      go (corrupt, v, y) = (corrupt, v, y)
      go (ledger l, v, y) =
          let q = same l v.2 (reached_injective r.answer (slot_of (walk l)) y.answer) in
          (ledger l, v, record { answer = y.answer ∙ ap (λ (st : Step). reached_reply (slot_of st)) q; holds = y.holds; leaves = y.leaves })

-- a walker that has answered no refusal stands on tables that hold a ledger
pub stands_held : (t : Tables) (s : State) (walk : Ledger → Step) (r : Stand) → is_err r.answer ≡ false → Stands t s walk r → (l : Ledger) × Reads lent.buckets t s (ledger l)
stands_held t s walk r d h = go h.promised
  where
    go : Reaches t s walk r.answer → (l : Ledger) × Reads lent.buckets t s (ledger l)
    go (over, v, y) = absurd (neither (is_err r.answer) (refused_so r.answer _ y.answer) d)
    go (short, v, y) = absurd (neither (is_err r.answer) (refused_so r.answer _ y.answer) d)
    go (corrupt, v, y) = absurd (neither (is_err r.answer) (refused_so r.answer _ y.answer) d)
    go (ledger l, v, y) = (l, v)

-- on tables that hold a ledger the walker stands as that ledger's walk does
pub stands_told : (t : Tables) (s : State) (walk : Ledger → Step) (r : Stand) (l : Ledger) → Holds t s l → Stands t s walk r → r ≡ stand_of (slot_of (walk l))
stands_told t s walk r l h w =
    w.stands ∙ ap stand_of (reached_injective r.answer (slot_of (walk l)) (subst (By lent.buckets (λ m. shows (walk m) m) t s (reached_reply r.answer) t s) reading w.promised.2).answer)
  where
    reading : w.promised.0 ≡ ledger l
    reading = reads_one lent.buckets holds_one t s w.promised.0 (ledger l) w.promised.1 (let c = h.capacity in let m = h.limit in omega arith, subst (Sized t) (sym h.capacity) h.sized, h)

-- ---- the walker after n steps

pub nth_start : (t : Tables) (s : State) (g : ℕ) (r : Stand) → Starts t s g r → Nth t s g 0 r
unfolding start
nth_start t s g r h = stands_alike t s (start g) (λ l. nth_of (list_of g l.levels) 0) r (λ l w q. nth_first (list_of g l.levels)) h

-- a walker that has answered a refusal answers the same after any more steps
pub nth_refused : (t : Tables) (s : State) (g m n : ℕ) (r : Stand) → m ≤ n → is_err r.answer ≡ true → Nth t s g m r → Nth t s g n r
nth_refused t s g m n r b e h =
    stands_alike t s (λ l. nth_of (list_of g l.levels) m) (λ l. nth_of (list_of g l.levels) n) r
    (λ l w q.
    let z = absent_so (nth_of (list_of g l.levels) m) (sym (ap is_err q) ∙ e) in
    z ∙ sym (nth_beyond (list_of g l.levels) m n z b)) h

-- and any other goes one place on
pub nth_more : (k f e p n a i b sp : List ℕ) (s : State) (g m : ℕ) (at r : Stand) → is_err at.answer ≡ false → Nth (tables k f e p n a i b sp) s g m at → Steps n at r →
    Nth (tables k f e p n a i b sp) s g (m + 1) r
nth_more k f e p n a i b sp s g m at r d h w =
    let t = tables k f e p n a i b sp in
    let found = stands_held t s (λ l. nth_of (list_of g l.levels) m) at d h in
    let l = found.0 in
    let holds = found.1.2 in
    let xs : List Item = list_of g l.levels in
    let here-so : at.slot.0 ≡ slot_at (nth_of xs m) = ap (λ (z : Stand). z.slot.0) (stands_told t s (λ l. nth_of (list_of g l.levels) m) at l holds h) in
    let on : step at.slot.0 l ≡ nth_of xs (m + 1) = ap (λ (x : ℕ). step x l) here-so ∙ step_nth l holds.formed holds.limit g [] xs refl m in
    stands_by t s (λ l. nth_of (list_of g l.levels) (m + 1)) w.after r w.stands (
      ledger l,
      found.1,
      record {
        answer = ap reached_reply (w.leads.steps k f e p a i b sp s l holds) ∙ ap (λ (st : Step). reached_reply (slot_of st)) on;
        holds = holds;
        leaves = λ z q. (refl, refl);
      },
    )

-- the links that it goes on over are those of tables that hold a ledger
pub nth_linked : (k f e p n a i b sp : List ℕ) (s : State) (g m : ℕ) (at : Stand) → is_err at.answer ≡ false → Nth (tables k f e p n a i b sp) s g m at → Linked n
nth_linked k f e p n a i b sp s g m at d h =
    let found = stands_held (tables k f e p n a i b sp) s (λ l. nth_of (list_of g l.levels) m) at d h in
    (k, f, e, p, a, i, b, sp, s, (found.0, found.1.2))
