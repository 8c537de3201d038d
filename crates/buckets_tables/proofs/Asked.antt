-- What binding, hitting, restarting and letting go ask of the layers below, and that they keep their promises: the needs of those four
-- functions, each from one law of Steps.antt.
use Rattle.std.proofs.Common.{◌≡◌, ℕ, ◌+◌, ◌-◌, ◌^◌, ◌<◌, ◌≤◌, List, length, get_or, set, sym, refl, ap, ◌∙◌, subst, arith, length-set, MutBor}
use Rattle.numbers.specs.Frequency.{raised}
use Rattle.numbers.specs.declared.Frequency.{Frequency}
use Rattle.numbers.specs.declared.Slot.{Slot}
use Rattle.lists.specs.Lists.{In, Without, one}
use Rattle.lists.proofs.Tests.{one_same}
use Rattle.lists.proofs.Members.{in_length, in_sum}
use Rattle.lists.proofs.Maps.{images_all}
use Rattle.ledger.specs.Ledger.{Ledger, Item, items, put, release, move, restart}
use Rattle.ledger.proofs.Slots.{free_slot, bound_slot, size_and_free}
use Rattle.slot_arena.specs.Arena as arena
use Rattle.slot_arena.specs.declared.Order.{Order}
use Rattle.bucket_table.specs.declared.Buckets.{Buckets}
use Rattle.levels.specs.Levels as levels
use Rattle.levels.specs.Levels.{Nowhere}
use Rattle.levels.specs.Held.{Line, Tabs, tabs}
use Rattle.levels.specs.Slices.{lent as levels_lent, SameLevels}
use Rattle.levels.specs.declared.Levels.{Levels}
use Rattle.levels.specs.Calls as asks
use Rattle.levels.specs.Calls.{LowestFrequency, SoundWith, SlotBound, LevelTouches, LevelRestarts, LevelBinds}
use Rattle.buckets_tables.specs.declared.State.{State}
use Rattle.buckets_tables.specs.declared.Guests.{Guests}
use Rattle.buckets_tables.specs.Slices.{joined}
use Rattle.buckets_tables.specs.Tables.{Tables, tables, leveled, Sized}
use Rattle.buckets_tables.specs.Holds.{BoundSlot, Holds}
use Rattle.buckets_tables.specs.Calls.{recounted, Room, Binds, BoundIn, Hits, Restarts, LetsGo, Vacant, EntersIndex, LeavesIndex}
use Rattle.buckets_tables.proofs.Places.{Place, bound_place, unbound_nowhere, only_there, there, in_there}
use Rattle.buckets_tables.proofs.Steps.{free_unbound, held_there, put_holds, hit_holds, restart_holds, release_holds}

-- a slot in no list is marked free
next_own : (t : Tables) (s : State) (l : Ledger) (h : Holds t s l) (x : ℕ) → x < l.capacity → Nowhere x h.slots → get_or t.nexts x 0 ≡ x
next_own t s l h x b n =
    (h.lists.rep.free x (let a = h.sized.freqs_size in omega arith)
    (images_all (λ (m : Line). levels.level m.row.freq m.slots) (λ (m : levels.Level). Without x m.slots) h.lists.lines (rw h.lists.seen n))).next_own

-- a count of keys fits
pub count_fits : (t : Tables) (s : State) (l : Ledger) → Holds t s l → s.count ≤ 4096
count_fits t s l h = let a = size_and_free l h.formed in let b = h.count in let c = h.limit in omega arith

-- tables of the lengths that others have
pub sized_like : (t : Tables) (c : ℕ) → Sized t c → (k f e p n a i b sp : List ℕ) → length k ≡ length t.keys → length f ≡ length t.freqs → length e ≡ length t.epochs →
    length p ≡ length t.prevs → length n ≡ length t.nexts → length a ≡ length t.arena → length i ≡ length t.index → length b ≡ length t.buckets → length sp ≡ length t.spares →
    Sized (tables k f e p n a i b sp) c
sized_like t c h k f e p n a i b sp lk lf le lp ln la li lb ls = record {
  keys_size = lk ∙ h.keys_size;
  freqs_size = lf ∙ h.freqs_size;
  epochs_size = le ∙ h.epochs_size;
  prevs_size = lp ∙ h.prevs_size;
  nexts_size = ln ∙ h.nexts_size;
  arena_size = la ∙ h.arena_size;
  index_size = li ∙ h.index_size;
  buckets_size = lb ∙ h.buckets_size;
  spares_size = ls ∙ h.spares_size;
}

-- Binding

module _ (t : Tables) (s : State) (key : ℕ) (r : Room t s key) where
  abbrev l : Ledger
  l = r.ledger

  abbrev x : ℕ
  x = s.free.first

  x_below : x < l.capacity
  x_below = (free_slot l r.holds.formed x r.rest r.free_is).0

  x_unbound : BoundSlot l x → ⊥
  x_unbound = free_unbound t s l r.holds key x r.rest r.absent r.free_is

  pub room_first : x < length t.arena
  room_first = let a = r.holds.sized.arena_size in let b = x_below in omega arith

  pub room_vacant : (y : ℕ) → y ≡ x → Vacant t.keys t.epochs t.index y
  room_vacant y e = rw e (record {
    index_sound = r.holds.index_sound;
    slot = let a = r.holds.sized.keys_size in let b = r.holds.sized.epochs_size in let c = x_below in (omega arith, omega arith);
    out = λ has. x_unbound ((r.holds.indexed x).0 has);
  })

  pub room_binding : (y : ℕ) → y ≡ x → asks.Binding (leveled t) s.buckets y
  room_binding y e = rw e (record {
    sound = (r.holds.slots, r.holds.lists);
    slot = let a = r.holds.sized.freqs_size in let b = x_below in omega arith;
    next_own = next_own t s l r.holds x x_below (unbound_nowhere t s l r.holds x x_unbound);
  })

  pub room_count : s.count + 1 < 2 ^ 64
  room_count = let a = count_fits t s l r.holds in omega arith

  -- the lists after it are sound
  pub room_lists : (y : ℕ) (f' p' n' b' sp' : List ℕ) (bk : Buckets) → LevelBinds (leveled t) s.buckets y (tabs f' p' n' b' sp') bk → SoundWith b' bk
  room_lists y f' p' n' b' sp' bk binds = (f', p', n', sp', (_, binds.holds r.holds.slots r.holds.lists))

  module _ (k' e' i' : List ℕ) (a' : List ℕ) (took : Slot) (o' : Order) (takes : arena.Takes t.arena s.free a' took o')
      (enters : EntersIndex t.keys t.epochs t.index took.0 key s.epoch k' e' i') (f' p' n' b' sp' : List ℕ) (bk : Buckets)
      (binds : LevelBinds (leveled t) s.buckets took.0 (tabs f' p' n' b' sp') bk) (low : ℕ) (reads : LowestFrequency b' bk low)
      (sized : Sized (tables k' f' e' p' n' a' i' b' sp') l.capacity) (s' : State) (after : s' ≡ recounted s (s.count + 1) low o' bk) where
    pub bound_so : Binds t s key (tables k' f' e' p' n' a' i' b' sp') took s'
    bound_so = record {
      slot = takes.slot;
      holds = λ m rest h none' free_is.
          let en = subst (λ (y : ℕ). EntersIndex t.keys t.epochs t.index y key s.epoch k' e' i') takes.slot enters in
          let bi = subst (λ (y : ℕ). LevelBinds (leveled t) s.buckets y (tabs f' p' n' b' sp') bk) takes.slot binds in
          let c : m.capacity ≡ l.capacity = sym h.capacity ∙ r.holds.capacity in
          subst (λ z. Holds (tables k' f' e' p' n' a' i' b' sp') z (put key x rest m)) (sym after)
          (put_holds t s m h key x rest none' free_is k' e' i' en a' took o' takes f' p' n' b' sp' bk bi low reads (rw c sized));
    }

-- A bound slot

module _ (t : Tables) (s : State) (x : ℕ) (r : BoundIn t s x) where
  abbrev pl : Place r.holds.slots x
  pl = bound_place t s r.ledger r.holds x r.bound

  pub slot_below : x < r.ledger.capacity
  slot_below = (bound_slot r.ledger r.holds.formed (there t s r.ledger r.holds x pl) (in_there t s r.ledger r.holds x pl)).0

  pub slot_in_lists : SlotBound (leveled t) s.buckets x
  slot_in_lists =
      record { us = pl.us; freq = pl.freq; xs = pl.xs; ys = pl.ys; vs = pl.vs; held = held_there t s r.ledger r.holds x pl }

  pub slot_sized : (x < length t.keys) × (x < length t.epochs) × (x < length t.arena) × (x < length t.freqs)
  slot_sized =
      let a = slot_below in
      let b = r.holds.sized.keys_size in
      let c = r.holds.sized.epochs_size in
      let d = r.holds.sized.arena_size in
      let f = r.holds.sized.freqs_size in
      (omega arith, omega arith, omega arith, omega arith)

  -- the slot's number is small enough for a place in memory
  pub slot_limit : x < 4096
  slot_limit = let a = slot_below in let b = r.holds.limit in omega arith

  -- some key is bound
  pub count_some : 1 ≤ s.count
  count_some =
      let a = in_length (there t s r.ledger r.holds x pl) (items r.ledger.levels) (in_there t s r.ledger r.holds x pl) in
      let b = r.holds.count in
      omega arith

  pub hit_lists_sound : (cap : ℕ) (f' p' n' b' sp' : List ℕ) (g : Frequency) (bk : Buckets) → LevelTouches (leveled t) s.buckets x cap (tabs f' p' n' b' sp') g bk → SoundWith b' bk
  hit_lists_sound cap f' p' n' b' sp' g bk touches = (f', p', n', sp', (_, touches.holds slot_in_lists.us slot_in_lists.freq slot_in_lists.xs slot_in_lists.ys slot_in_lists.vs slot_in_lists.held))

  pub restart_lists_sound : (f' p' n' b' sp' : List ℕ) (bk : Buckets) → LevelRestarts (leveled t) s.buckets x (tabs f' p' n' b' sp') bk → SoundWith b' bk
  restart_lists_sound f' p' n' b' sp' bk restarts = (f', p', n', sp', (_, restarts.holds slot_in_lists.us slot_in_lists.freq slot_in_lists.xs slot_in_lists.ys slot_in_lists.vs slot_in_lists.held))

  pub left_lists_sound : (f' p' n' b' sp' : List ℕ) (bk : Buckets) → asks.Unbinds (leveled t) s.buckets x (tabs f' p' n' b' sp') bk → SoundWith b' bk
  left_lists_sound f' p' n' b' sp' bk unbinds = (f', p', n', sp', (_, unbinds.holds slot_in_lists.us slot_in_lists.freq slot_in_lists.xs slot_in_lists.ys slot_in_lists.vs slot_in_lists.held))

-- every item in the slot is the one at its place
at_place : (t : Tables) (s : State) (l : Ledger) (h : Holds t s l) (x : ℕ) (y : Item) → In y (items l.levels) → y.slot ≡ x →
    (p : Place h.slots x) × (y ≡ there t s l h x p)
at_place t s l h x y i q =
    let b : BoundSlot l x = (let c = in_sum (λ (z : Item). one z.slot x) (items l.levels) y i in omega (arith, one_same y.slot x q)) in
    let p = bound_place t s l h x b in
    (p, only_there t s l h x p y i q)

-- A bound slot moves: a hit or a restart

-- the levels' tables have the lengths that they had
pub record AsLong (v v' : Tabs) : Type 0 where
  pub freqs : length v'.freqs ≡ length v.freqs
  pub prevs : length v'.prevs ≡ length v.prevs
  pub nexts : length v'.nexts ≡ length v.nexts
  pub buckets : length v'.buckets ≡ length v.buckets
  pub spares : length v'.spares ≡ length v.spares

pub as_long : (l l' : Levels (MutBor (List ℕ))) → SameLevels l l' → AsLong (levels_lent l) (levels_lent l')
as_long l l' same =
    record { freqs = same.freqs_size; prevs = same.prevs_size; nexts = same.nexts_size; buckets = same.buckets_size; spares = same.spares_size }

module _ (e : List ℕ) (v : Tabs) (s : State) (x : ℕ) (v' : Tabs) (bk : Buckets) (e' : List ℕ) (low : ℕ) (s' : State)
    (epochs_are : e' ≡ set e x s.epoch) (reads : LowestFrequency v'.buckets bk low) (after : s' ≡ recounted s s.count low s.free bk) (long : AsLong v v') where
  sized_moved : (g : Guests (List ℕ)) (c : ℕ) → Sized (joined g e v) c → Sized (joined g e' v') c
  sized_moved g c z =
      sized_like (joined g e v) c z g.keys v'.freqs e' v'.prevs v'.nexts g.arena g.index v'.buckets v'.spares refl long.freqs
      (ap (λ u. length u) epochs_are ∙ length-set e x s.epoch) long.prevs long.nexts refl refl long.buckets long.spares

  pub hit_so : (cap : ℕ) (frequency : Frequency) → LevelTouches v s.buckets x cap v' frequency bk →
      Hits e v s x cap e' v' frequency s'
  hit_so cap frequency touches = record {
    answer = λ g l y h j q.
        let t = joined g e v in
        let w = at_place t s l h x y j q in
        rw w.1 (touches.answer w.0.us w.0.freq w.0.xs w.0.ys w.0.vs (held_there t s l h x w.0));
    holds = λ g l y h j q fits.
        let t = joined g e v in
        let w = at_place t s l h x y j q in
        rw w.1 (subst (λ z. Holds (joined g e' v') z (move (there t s l h x w.0) (raised cap w.0.freq) l)) (sym after)
        (hit_holds t s l h x w.0 v'.freqs v'.prevs v'.nexts v'.buckets v'.spares bk e' epochs_are low reads (sized_moved g l.capacity h.sized) cap fits
        (touches.holds w.0.us w.0.freq w.0.xs w.0.ys w.0.vs (held_there t s l h x w.0))));
  }

  pub restart_so : LevelRestarts v s.buckets x v' bk → Restarts e v s x e' v' s'
  restart_so restarts = record {
    holds = λ g l y h j q.
        let t = joined g e v in
        let w = at_place t s l h x y j q in
        rw w.1 (subst (λ z. Holds (joined g e' v') z (restart (there t s l h x w.0) l)) (sym after)
        (restart_holds t s l h x w.0 v'.freqs v'.prevs v'.nexts v'.buckets v'.spares bk e' epochs_are low reads (sized_moved g l.capacity h.sized)
        (restarts.holds w.0.us w.0.freq w.0.xs w.0.ys w.0.vs (held_there t s l h x w.0))));
  }

pub gone_so : (t : Tables) (s : State) (x : ℕ) (k' e' i' : List ℕ) (f' p' n' b' sp' : List ℕ) (bk : Buckets) (a' : List ℕ) (o' : Order) (low : ℕ) (s' : State) →
    LeavesIndex t.keys t.epochs t.index x k' e' i' → asks.Unbinds (leveled t) s.buckets x (tabs f' p' n' b' sp') bk → arena.Releases t.arena s.free x a' o' →
    LowestFrequency b' bk low → s' ≡ recounted s (s.count - 1) low o' bk → ((c : ℕ) → Sized t c → Sized (tables k' f' e' p' n' a' i' b' sp') c) →
    LetsGo t s x (tables k' f' e' p' n' a' i' b' sp') s'
gone_so t s x k' e' i' f' p' n' b' sp' bk a' o' low s' leaves unbinds releases reads after sized = record {
  holds = λ l y h j q.
      let w = at_place t s l h x y j q in
      rw w.1 (subst (λ z. Holds (tables k' f' e' p' n' a' i' b' sp') z (release (there t s l h x w.0) l)) (sym after)
      (release_holds t s l h x w.0 k' e' i' leaves f' p' n' b' sp' bk unbinds a' o' releases low reads (sized l.capacity h.sized)));
}
