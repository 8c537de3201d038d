-- The tables lead a walk where the ledger does. What carries it: the link at a slot, and the head of a level, is the first of the slots
-- that are left of the list, or NONE where none is left; and what the ledger shows is the item in that slot.
use mathlib.Core.Path.{◌≡◌, refl, sym, ap, ◌∙◌, subst}
use mathlib.Core.Logic.{◌≢◌}
use mathlib.Core.Bool.{cond}
use mathlib.Core.List.{List, [], ◌∷◌, ◌++◌}
use Prim.Native.Nat.{ℕ, ◌<◌, ◌≤◌}
use native.Mathlib.Omega.{arith}
use lib.ListN.{length}
use lib.Dec.{eqb}
use Rattle.numbers.specs.Marks.{NONE}
use Rattle.std.proofs.Common.{Option, Some, None, Result, Ok, Err}
use Rattle.numbers.specs.declared.Refusal.{Refusal}
use Rattle.numbers.specs.declared.Refusal.TheVariants.{Absent}
use Rattle.numbers.specs.declared.Slot.{Slot}
use Rattle.lists.specs.Lists.{All, In, one}
use Rattle.lists.proofs.Tests.{if_lt, if_same, if_other, if_less, if_not_less, one_same}
use Rattle.lists.proofs.Members.{all_in, all_map, all_right, in_sum, without_times}
use Rattle.ledger.specs.Ledger.{Ledger, Item, item, items, tag, slotted}
use Rattle.ledger.specs.Buckets.{done, refused}
use Rattle.ledger.specs.BucketCalls.{asks, WalkStart, WalkStep}
use Rattle.ledger.specs.Walk.{Step, here, no_more, absent, step_reply, list_of, head, start, step}
use Rattle.ledger.proofs.Walked.{list_of_frequency, list_of_in, step_at, step_free, step_outside}
use Rattle.links.specs.Chain.{cells}
use Rattle.levels.specs.Levels as levels
use Rattle.levels.specs.Levels.{slot_list}
use Rattle.levels.specs.Calls.{Names, Heads}
use Rattle.levels.proofs.Lines.{nowhere_members}
use Rattle.levels.proofs.Answers.{head_slots}
use Rattle.levels.proofs.One.{held_one, held_below, held_rising, held_next, free_nowhere, taken_bound}
use Rattle.buckets_tables.specs.declared.State.{State}
use Rattle.buckets_tables.specs.Tables.{Tables, tables, leveled}
use Rattle.buckets_tables.specs.Holds.{entry_at, entries_at, BoundSlot, Holds}
use Rattle.buckets_tables.proofs.Entries.{slotted_members, list_slots}
use Rattle.buckets_tables.proofs.Found.{Stands, stands}
use Rattle.buckets_walk.specs.Walks.{slot_of, link_at, Leads, Startable, OfStart, Walkable, OfStep}
use Rattle.buckets_walk.proofs.Lists.{slots_all, slots_there, tag_there, start_in, step_in}

-- where a link leads
abbrev led : ℕ → Result (Option Slot) Refusal
led x = cond (eqb x NONE) (Ok None) (Ok (Some (record { 0 = x })))

-- to the first of the slots that are left
lands : (k e : List ℕ) (f : ℕ) (ys : List ℕ) → All (λ y. y ≢ NONE) ys → led (levels.first ys) ≡ slot_of (head (tag f (entries_at k e ys) []))
lands k e f [] a = if_same NONE NONE (Ok None) (Ok (Some (record { 0 = NONE }))) refl
lands k e f (y ∷ ys) a = if_other y NONE (Ok None) (Ok (Some (record { 0 = y }))) a.0

module _ (t : Tables) (s : State) (l : Ledger) (h : Holds t s l) where
  small : All (λ y. y ≢ NONE) (levels.members h.slots)
  small =
      let c = h.limit in
      let z = h.sized.freqs_size in
      all_map (λ y. y < length t.freqs) (λ y. y ≢ NONE) (λ y b e. omega arith) (levels.members h.slots) (held_below (leveled t) s.buckets h.slots h.lists)

  list_is : (f : ℕ) → list_of f l.levels ≡ tag f (entries_at t.keys t.epochs (slot_list f h.slots)) []
  list_is f = ap (list_of f) h.entries ∙ list_slots t.keys t.epochs f h.slots

  start_led : (f : ℕ) → led (levels.head_of f h.slots) ≡ slot_of (start f l)
  unfolding start
  start_led f =
      ap led (head_slots f h.slots)
      ∙ lands t.keys t.epochs f (slot_list f h.slots) (slots_all (λ y. y ≢ NONE) f h.slots small)
      ∙ ap (λ xs. slot_of (head xs)) (sym (list_is f))

  -- a slot that is not marked free
  step_led : (x : ℕ) → x < length t.nexts → cells t.nexts x ≢ x → led (cells t.nexts x) ≡ slot_of (step x l)
  step_led x b d =
      let z = h.sized.freqs_size in
      let y = h.sized.nexts_size in
      let w = taken_bound (leveled t) s.buckets h.slots h.lists x (omega arith) d in
      let zs : List ℕ = w.xs ++ x ∷ w.ys in
      let ls : List levels.Level = w.us ++ levels.level w.freq zs ∷ w.vs in
      let shown : List ℕ → List Item = λ ss. tag w.freq (entries_at t.keys t.epochs ss) [] in
      let same : h.slots ≡ ls = held_one (leveled t) s.buckets h.slots ls h.lists w.held in
      let there : slot_list w.freq h.slots ≡ zs =
      ap (slot_list w.freq) same ∙ slots_there 0 w.us w.freq zs w.vs (held_rising (leveled t) s.buckets ls w.held) in
      let listed = list_is w.freq ∙ ap shown there ∙ tag_there t.keys t.epochs w.freq w.xs x w.ys in
      let stays = subst (All (λ y. y ≢ NONE)) there (slots_all (λ y. y ≢ NONE) w.freq h.slots small) in
      ap led (held_next (leveled t) s.buckets w.us w.freq w.xs x w.ys w.vs w.held)
      ∙ lands t.keys t.epochs w.freq w.ys (all_right (λ y. y ≢ NONE) w.xs (x ∷ w.ys) stays).1
      ∙ ap slot_of (sym (step_at l h.formed (shown w.xs) (item w.freq (entry_at t.keys t.epochs x)) (shown w.ys) listed))

  -- a slot that is marked free
  step_away : (x : ℕ) → cells t.nexts x ≡ x → step x l ≡ absent
  step_away x e =
      step_free l x
      (ap (λ ls. slotted x (items ls)) h.entries ∙ slotted_members t.keys t.epochs x h.slots
      ∙ without_times x (levels.members h.slots) (nowhere_members x h.slots (free_nowhere (leveled t) s.buckets h.slots h.lists x e)))

-- `next`

module _ (n : List ℕ) (x : ℕ) where
  pub next_outside : length n ≤ x → Leads n x (Err Absent)
  next_outside b = record {
    cell = sym (if_not_less x (length n) _ (Err Absent) b);
    steps = λ k f e p a i bk sp s l h. let z = h.sized.nexts_size in ap slot_of (sym (step_outside l h.formed x (omega arith)));
  }

  pub next_free : cells n x ≡ x → Leads n x (Err Absent)
  next_free q = record {
    cell = sym (if_lt (λ (r : Result (Option Slot) Refusal). r ≡ (Err Absent)) x (length n) (λ b. if_same (cells n x) x (Err Absent) _ q) (λ b. refl));
    steps = λ k f e p a i bk sp s l h. ap slot_of (sym (step_away (tables k f e p n a i bk sp) s l h x q));
  }

  module _ (b : x < length n) (d : cells n x ≢ x) where
    -- what is said of a slot in range that is not linked to itself
    cell_is : link_at n x ≡ cond (eqb (cells n x) NONE) (Ok None) (Ok (Some (record { 0 = cells n x })))
    cell_is = if_less x (length n) _ (Err Absent) b ∙ if_other (cells n x) x (Err Absent) _ d

    led_by : (r : Result (Option Slot) Refusal) → r ≡ cond (eqb (cells n x) NONE) (Ok None) (Ok (Some (record { 0 = cells n x }))) → Leads n x r
    led_by r q = record {
      cell = q ∙ sym cell_is;
      steps = λ k f e p a i bk sp s l h. q ∙ step_led (tables k f e p n a i bk sp) s l h x b d;
    }

    pub next_none : (y : ℕ) → y ≡ cells n x → y ≡ NONE → Leads n x (Ok None)
    next_none y e q = led_by (Ok None) (sym (if_same (cells n x) NONE (Ok None) (Ok (Some (record { 0 = cells n x }))) (sym e ∙ q)))

    pub next_at : (y : ℕ) → y ≡ cells n x → y ≢ NONE → Leads n x (Ok (Some (record { 0 = y })))
    next_at y e q = subst (λ (z : ℕ). Leads n x (Ok (Some (record { 0 = z })))) (sym e) (led_by (Ok (Some (record { 0 = cells n x }))) (sym (if_other (cells n x) NONE (Ok None) (Ok (Some (record { 0 = cells n x }))) (λ w. q (e ∙ w)))))

-- the links leave no choice where a step leads
pub leads_agree : (n : List ℕ) (x : ℕ) (r q : Result (Option Slot) Refusal) → Leads n x r → Leads n x q → r ≡ q
leads_agree n x r q a b = a.cell ∙ sym b.cell

-- What is told

-- of a walk past the last slot, and of one that stands nowhere
past : (st : Step) → Ok None ≡ slot_of st → done [] ≡ step_reply st
past (here z) q = let c : ◌≡◌ {A = ℕ} 0 1 = cc in absurd (omega arith)
past no_more q = refl
past absent q = let c : ◌≡◌ {A = ℕ} 0 1 = cc in absurd (omega arith)

nowhere : (why : Refusal) (st : Step) → Err why ≡ slot_of st → refused why ≡ step_reply st
nowhere why (here z) q = let c : ◌≡◌ {A = ℕ} 0 1 = cc in absurd (omega arith)
nowhere why no_more q = let c : ◌≡◌ {A = ℕ} 0 1 = cc in absurd (omega arith)
nowhere why absent q = cc

-- of one that stands at a slot
abbrev number : Result (Option Slot) Refusal → ℕ
number (Ok (Some y)) = y.0
number (Ok None) = NONE
number (Err why) = NONE

at_here : (y : Slot) (st : Step) → Ok (Some y) ≡ slot_of st → (z : Item) × (st ≡ here z) × (z.slot ≡ y.0)
at_here y (here z) q = (z, refl, ap number (sym q))
at_here y no_more q = let c : ◌≡◌ {A = ℕ} 0 1 = cc in absurd (omega arith)
at_here y absent q = let c : ◌≡◌ {A = ℕ} 0 1 = cc in absurd (omega arith)

module _ (t : Tables) (s : State) (l : Ledger) (h : Holds t s l) where
  -- the ledger shows the item in that slot
  seen : (st : Step) → ((z : Item) → st ≡ here z → In z (items l.levels)) → (y : Slot) → Ok (Some y) ≡ slot_of st → (z : Item) × (st ≡ here z) × Stands t s l h z y.0
  seen st i y q = let w = at_here y st q in (w.0, w.1, subst (Stands t s l h w.0) w.2 (stands t s l h w.0 (i w.0 w.1)))

-- `walk_step`

-- links lead only to slots that are bound, in whatever ledger they are the links of
pub leads_bound : (n : List ℕ) (x : ℕ) (y : Slot) → Leads n x (Ok (Some y)) → (k f e p a i b sp : List ℕ) (s : State) (l : Ledger) → Holds (tables k f e p n a i b sp) s l → BoundSlot l y.0
leads_bound n x y q k f e p a i b sp s l h =
    let w = seen (tables k f e p n a i b sp) s l h (step x l) (step_in x l) y (q.steps k f e p a i b sp s l h) in
    let c = in_sum (λ (z : Item). one z.slot y.0) (items l.levels) w.0 w.2.inside in
    omega (arith, one_same w.0.slot y.0 w.2.slot)

module _ (k f e n : List ℕ) (x : ℕ) where
  pub step_past : Leads n x (Ok None) → OfStep k f e n (asks (WalkStep x)) (done [])
  unfolding asks
  step_past q p a i b sp s l h = past (step x l) (q.steps k f e p a i b sp s l h)

  pub step_nowhere : (why : Refusal) → Leads n x (Err why) → OfStep k f e n (asks (WalkStep x)) (refused why)
  unfolding asks
  step_nowhere why q p a i b sp s l h = nowhere why (step x l) (q.steps k f e p a i b sp s l h)

  module _ (y : Slot) (q : Leads n x (Ok (Some y))) where
    pub step_shown : OfStep k f e n (asks (WalkStep x)) (done (y.0 ∷ cells k y.0 ∷ cells f y.0 ∷ cells e y.0 ∷ []))
    unfolding asks
    step_shown p a i b sp s l h =
        let w = seen (tables k f e p n a i b sp) s l h (step x l) (step_in x l) y (q.steps k f e p a i b sp s l h) in
        (λ j. done (sym w.2.slot j ∷ w.2.key j ∷ w.2.frequency j ∷ w.2.epoch j ∷ [])) ∙ ap step_reply (sym w.1)

    pub step_below : Walkable k f e n → (y.0 < 4096) × (y.0 < length k) × (y.0 < length f) × (y.0 < length e)
    step_below (p, a, i, b, sp, s, (l, h)) =
        let w = seen (tables k f e p n a i b sp) s l h (step x l) (step_in x l) y (q.steps k f e p a i b sp s l h) in
        let below = w.2.below in
        let limit = h.limit in
        let ks = h.sized.keys_size in
        let fs = h.sized.freqs_size in
        let es = h.sized.epochs_size in
        (omega arith, omega arith, omega arith, omega arith)

-- `walk_start`

-- the slot that is named is where a link to it leads
named_led : (r : Option Slot) (y : ℕ) → Names r y → Ok r ≡ led y
named_led (Some x) y named = (λ j. Ok (Some (record { 0 = named.0 j }))) ∙ sym (if_other y NONE (Ok None) (Ok (Some (record { 0 = y }))) named.1)
named_led None y named = sym (if_same y NONE (Ok None) (Ok (Some (record { 0 = y }))) named)

module _ (k e b : List ℕ) (s : State) (g : ℕ) where
  led_start : (r : Option Slot) → Heads b s.buckets g r → (f p n a i sp : List ℕ) (l : Ledger) → Holds (tables k f e p n a i b sp) s l → Ok r ≡ slot_of (start g l)
  led_start r heads f p n a i sp l h =
      named_led r _ (heads.answer f p n sp _ h.lists) ∙ start_led (tables k f e p n a i b sp) s l h g

  pub start_past : Heads b s.buckets g None → OfStart k e b s (asks (WalkStart g)) (done [])
  unfolding asks
  start_past heads f p n a i sp l h = past (start g l) (led_start None heads f p n a i sp l h)

  module _ (x : Slot) (heads : Heads b s.buckets g (Some x)) where
    at_start : (f p n a i sp : List ℕ) (l : Ledger) (h : Holds (tables k f e p n a i b sp) s l) →
        (z : Item) × (start g l ≡ here z) × Stands (tables k f e p n a i b sp) s l h z x.0
    at_start f p n a i sp l h =
        seen (tables k f e p n a i b sp) s l h (start g l) (λ z q. list_of_in g l.levels z (start_in g l z q)) x
        (led_start (Some x) heads f p n a i sp l h)

    pub start_shown : OfStart k e b s (asks (WalkStart g)) (done (x.0 ∷ cells k x.0 ∷ g ∷ cells e x.0 ∷ []))
    unfolding asks
    start_shown f p n a i sp l h =
        let w = at_start f p n a i sp l h in
        let own : w.0.frequency ≡ g = all_in (λ (z : Item). z.frequency ≡ g) (list_of g l.levels) w.0 (list_of_frequency g l.levels) (start_in g l w.0 w.1) in
        (λ j. done (sym w.2.slot j ∷ w.2.key j ∷ sym own j ∷ w.2.epoch j ∷ [])) ∙ ap step_reply (sym w.1)

    pub start_below : Startable k e b s → (x.0 < 4096) × (x.0 < length k) × (x.0 < length e)
    start_below (f, p, n, a, i, sp, (l, h)) =
        let below = (at_start f p n a i sp l h).2.below in
        let limit = h.limit in
        let ks = h.sized.keys_size in
        let es = h.sized.epochs_size in
        (omega arith, omega arith, omega arith)
