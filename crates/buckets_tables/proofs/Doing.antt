-- Each call on sound tables does what the ledger's function does: by what was found, and by what binding, hitting and letting go
-- promise. A call that refuses leaves everything.
use Rattle.std.proofs.Common.{◌≡◌, ℕ, ◌≤◌, ◌≢◌, Some, None, List, [], ◌∷◌, sym, refl, ap, ◌∙◌, subst, arith}
use Rattle.numbers.specs.Marks.{NONE}
use Rattle.numbers.specs.Frequency.{CEILING, cap_of}
use Rattle.numbers.specs.declared.Refusal.{Refusal}
use Rattle.numbers.specs.declared.Refusal.TheVariants.{Absent, Present, Full, Empty}
use Rattle.numbers.specs.declared.Slot.{Slot}
use Rattle.numbers.specs.declared.Frequency.{Frequency}
use Rattle.lists.specs.Lists.{one}
use Rattle.lists.proofs.Tests.{one_same}
use Rattle.lists.proofs.Members.{in_sum}
use Rattle.ledger.specs.Ledger.{Ledger, Item, items}
use Rattle.ledger.specs.Buckets.{done, refused, Outcome, insert, touch, remove, pop_min}
use Rattle.ledger.proofs.Refusals.{done_refused}
use Rattle.promise.specs.Promise.{Does, Sound}
use Rattle.links.specs.Chain.{cells}
use Rattle.slot_arena.proofs.Free.{first_none, first_slot}
use Rattle.slot_arena.specs.Arena.{ArenaHolds}
use Rattle.key_index.specs.Index as index
use Rattle.levels.specs.Levels as levels
use Rattle.levels.specs.Calls.{Names}
use Rattle.levels.specs.Held.{Tabs}
use Rattle.buckets_tables.specs.declared.State.{State}
use Rattle.buckets_tables.specs.declared.Guests.{Guests}
use Rattle.buckets_tables.specs.Slices.{joined}
use Rattle.buckets_tables.specs.Tables.{Tables}
use Rattle.buckets_tables.specs.Holds.{Holds}
use Rattle.buckets_tables.specs.Calls.{Room, Binds, BoundIn, Hits, LetsGo}
use Rattle.buckets_tables.proofs.Found.{Stands, found_at, found_nothing, Least, lowest_nothing, lowest_some}
use Rattle.buckets_tables.specs.Lent.{buckets}

-- a call that refuses whatever the tables hold
pub does_refuse : (f : Ledger → Outcome) (t : Tables) (s : State) (a : Refusal) → ((l : Ledger) → Holds t s l → f l ≡ (refused a, l)) → Does buckets f t s (refused a) t s
does_refuse f t s a h l w = record {
  answer = sym (ap (λ (o : Outcome). o.0) (h l w));
  holds = subst (Holds t s) (sym (ap (λ (o : Outcome). o.1) (h l w))) w;
  leaves = λ b e. (refl, refl);
}

-- a call that is done
pub does_done : (f : Ledger → Outcome) (t : Tables) (s : State) (ns : List ℕ) (t' : Tables) (s' : State) →
    ((l : Ledger) → Holds t s l → done ns ≡ (f l).0) → ((l : Ledger) → Holds t s l → Holds t' s' (f l).1) → Does buckets f t s (done ns) t' s'
does_done f t s ns t' s' h k l w = record { answer = h l w; holds = k l w; leaves = λ b e. done_refused ns b e }

-- a free order that does not begin with NONE begins with its first slot
pub free_some : (t : Tables) (s : State) (l : Ledger) → Holds t s l → s.free.first ≢ NONE → (rest : List ℕ) × (l.free ≡ s.free.first ∷ rest)
free_some t s l h d = go l.free h.free
  where
    go : (free : List ℕ) → ArenaHolds t.arena s.free free → (rest : List ℕ) × (free ≡ s.free.first ∷ rest)
    go [] w = absurd (d ((first_none t.arena s.free [] w).0 refl))
    go (x ∷ rest) w = (rest, λ i. sym (first_slot t.arena s.free x rest w).0 i ∷ rest)

-- `insert`

module _ (t : Tables) (s : State) (key : ℕ) where
  pub insert_present : (x : Slot) → index.Finds t.index t.keys key (Some x) → Does buckets (insert key) t s (refused Present) t s
  unfolding insert
  insert_present x f = does_refuse (insert key) t s Present (λ l h. rw (found_at t s l h key x f).found)

  module _ (absent : index.Finds t.index t.keys key None) where
    pub insert_full_lem : s.free.first ≡ NONE → Does buckets (insert key) t s (refused Full) t s
    unfolding insert
    insert_full_lem e =
        does_refuse (insert key) t s Full
        (λ l h. rw (found_nothing t s l h key absent, (first_none t.arena s.free l.free h.free).1 e))

    -- there is a slot for the key
    pub insert_room : Sound buckets t s → s.free.first ≢ NONE → Room t s key
    insert_room w d =
        let f = free_some t s w.0 w.1 d in
        record {
          ledger = w.0;
          rest = f.0;
          holds = w.1;
          absent = found_nothing t s w.0 w.1 key absent;
          free_is = f.1;
        }

    pub insert_done : s.free.first ≢ NONE → (t' : Tables) (x : Slot) (s' : State) → Binds t s key t' x s' → Does buckets (insert key) t s (done []) t' s'
    unfolding insert
    insert_done d t' x s' binds =
        does_done (insert key) t s [] t' s'
        (λ l h.
        let f = free_some t s l h d in
        rw (found_nothing t s l h key absent, f.1))
        (λ l h.
        let f = free_some t s l h d in
        let e = found_nothing t s l h key absent in
        rw (e, f.1) (binds.holds l f.0 h e f.1))

-- A bound key

-- its slot is bound
pub found_bound : (t : Tables) (s : State) (key : ℕ) (x : Slot) → Sound buckets t s → index.Finds t.index t.keys key (Some x) → BoundIn t s x.0
found_bound t s key x w f = record { ledger = w.0; holds = w.1; bound = (w.1.indexed x.0).0 f.0 }

-- `touch`, up to a cap

pub touch_absent : (t : Tables) (s : State) (cap key : ℕ) → index.Finds t.index t.keys key None → Does buckets (touch cap key) t s (refused Absent) t s
unfolding touch
touch_absent t s cap key f = does_refuse (touch cap key) t s Absent (λ l h. rw (found_nothing t s l h key f))

pub touch_done : (g : Guests (List ℕ)) (e : List ℕ) (v : Tabs) (s : State) (cap top key : ℕ) (x : Slot) → top ≡ cap_of cap → top ≤ CEILING →
    index.Finds g.index g.keys key (Some x) → (e' : List ℕ) (v' : Tabs) (f : Frequency) (s' : State) → Hits e v s x.0 top e' v' f s' →
    Does buckets (touch cap key) (joined g e v) s (done (f.0 ∷ [])) (joined g e' v') s'
unfolding touch
touch_done g e v s cap top key x is-cap low at_x e' v' f s' hit =
    let hits = subst (λ (c : ℕ). Hits e v s x.0 c e' v' f s') is-cap hit in
    let fits : cap_of cap ≤ CEILING = omega arith in
    let t = joined g e v in
    let t' = joined g e' v' in
    does_done (touch cap key) t s (f.0 ∷ []) t' s'
    (λ l h.
    let w = found_at t s l h key x at_x in
    rw w.found (ap (λ (m : ℕ). done (m ∷ [])) (hits.answer g l w.item_is h w.there_is.inside w.there_is.slot)))
    (λ l h.
    let w = found_at t s l h key x at_x in
    rw w.found (hits.holds g l w.item_is h w.there_is.inside w.there_is.slot fits))

-- `remove` and `pop_min`

pub remove_absent : (t : Tables) (s : State) (key : ℕ) → index.Finds t.index t.keys key None → Does buckets (remove key) t s (refused Absent) t s
unfolding remove
remove_absent t s key f = does_refuse (remove key) t s Absent (λ l h. rw (found_nothing t s l h key f))

pub remove_done : (t : Tables) (s : State) (key : ℕ) (x : Slot) (f : ℕ) → index.Finds t.index t.keys key (Some x) → f ≡ cells t.freqs x.0 →
    (t' : Tables) (s' : State) → LetsGo t s x.0 t' s' → Does buckets (remove key) t s (done (f ∷ [])) t' s'
unfolding remove
remove_done t s key x f at_x e t' s' gone =
    does_done (remove key) t s (f ∷ []) t' s'
    (λ l h.
    let w = found_at t s l h key x at_x in
    rw w.found (ap (λ (m : ℕ). done (m ∷ [])) (e ∙ w.there_is.frequency)))
    (λ l h. let w = found_at t s l h key x at_x in rw w.found (gone.holds l w.item_is h w.there_is.inside w.there_is.slot))

pub pop_empty : (t : Tables) (s : State) → ((l : Ledger) (h : Holds t s l) → Names None (levels.lowest h.slots)) → Does buckets pop_min t s (refused Empty) t s
unfolding pop_min
pop_empty t s low = does_refuse pop_min t s Empty (λ l h. rw (lowest_nothing t s l h (low l h)))

module _ (t : Tables) (s : State) (x : Slot) (low : (l : Ledger) (h : Holds t s l) → Names (Some x) (levels.lowest h.slots)) where
  pub least : (l : Ledger) (h : Holds t s l) → (y : Item) × Least t s l h y
  least l h = lowest_some t s l h (low l h).1

  pub stands_x : (l : Ledger) (h : Holds t s l) → Stands t s l h (least l h).0 x.0
  stands_x l h = subst (Stands t s l h (least l h).0) (sym (low l h).0) (least l h).1.there_is

  pub pop_bound : Sound buckets t s → BoundIn t s x.0
  pop_bound w =
      let l = w.0 in
      let h = w.1 in
      let st = stands_x l h in
      record {
        ledger = l;
        holds = h;
        bound = let c = in_sum (λ (z : Item). one z.slot x.0) (items l.levels) (least l h).0 st.inside in omega (arith, one_same (least l h).0.slot x.0 st.slot);
      }

  pub pop_done : (k f : ℕ) → k ≡ cells t.keys x.0 → f ≡ cells t.freqs x.0 → (t' : Tables) (s' : State) → LetsGo t s x.0 t' s' →
      Does buckets pop_min t s (done (k ∷ f ∷ [])) t' s'
  unfolding pop_min
  pop_done k f ek ef t' s' gone =
      does_done pop_min t s (k ∷ f ∷ []) t' s'
      (λ l h.
      let w = least l h in
      let st = stands_x l h in
      rw w.1.is (λ i. done ((ek ∙ st.key) i ∷ (ef ∙ st.frequency) i ∷ [])))
      (λ l h.
      let w = least l h in
      let st = stands_x l h in
      rw w.1.is (gone.holds l w.0 h st.inside st.slot))
