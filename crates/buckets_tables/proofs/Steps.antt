-- What the tables hold after a key is bound, after a hit or a restart, and after a key is let go. Each field of `Holds` comes from one part: the
-- lists from the levels, the free order from the arena, the index from the key index, the counts from bound and free slots making up
-- the capacity, and free slots stay blank since one slot alone is written.
use Rattle.std.proofs.Common.{◌≡◌, ℕ, ◌+◌, ◌-◌, ◌<◌, ◌≤◌, ◌≢◌, ◌⊎◌, ◌↔◌, List, [], ◌∷◌, ◌++◌, length, set, sym, refl, ap, ◌∙◌, subst, inl, inr, ⊎_elim, arith, length-append, length-set, get_or-set_other, get_or-set_same, lt-length-set}
use mathlib.Core.Option.{none, some}
use Rattle.numbers.specs.Frequency.{FIRST, CEILING, raised}
use Rattle.numbers.specs.declared.Slot.{Slot}
use Rattle.lists.specs.Lists.{All, Without, one, times}
use Rattle.lists.proofs.Tests.{if_eq, one_same, one_other}
use Rattle.lists.proofs.Members.{all_append, in_sum, times_without}
use Rattle.ledger.specs.Ledger.{Entry, Level, Ledger, Item, item, items, lookup, link, unlink, put, release, move, restart, slotted, WellFormed}
use Rattle.ledger.proofs.Items.{found_none, cut, items_link, items_unlink, sum_place, sum_cut_in}
use Rattle.ledger.proofs.Slots.{below_le, bound_slot, free_slot, size_and_free}
use Rattle.ledger.proofs.Changes.{put_formed, release_formed, move_formed, raised_fits, items_move}
use Rattle.ledger.proofs.Split.{link_from, joined, rising_above}
use Rattle.links.specs.Chain.{cells}
use Rattle.slot_arena.specs.Arena as arena
use Rattle.slot_arena.specs.declared.Order.{Order}
use Rattle.slot_arena.proofs.Free.{in_use_exact}
use Rattle.bucket_table.specs.declared.Buckets.{Buckets}
use Rattle.key_index.specs.Index as index
use Rattle.key_index.proofs.Frame.{has_frame, sound_frame}
use Rattle.key_index.specs.Index.{IndexSound}
use Rattle.levels.specs.Levels as levels
use Rattle.levels.specs.Levels.{join, keep, touched, lowest_frequency}
use Rattle.levels.specs.Held.{tabs, Held}
use Rattle.levels.specs.Calls.{Unbinds, LowestFrequency, LevelBinds}
use Rattle.buckets_tables.specs.declared.State.{State}
use Rattle.buckets_tables.specs.Tables.{Tables, tables, leveled, Sized}
use Rattle.buckets_tables.specs.Holds.{entry_at, levels_at, lowest_of, BoundSlot, Blank, Holds}
use Rattle.buckets_tables.specs.Calls.{recounted, Vacant, EntersIndex, LeavesIndex}
use Rattle.buckets_tables.proofs.Entries.{SameCells, levels_join, levels_away, still_blank}
use Rattle.buckets_tables.proofs.Places.{Place, bound_place, unbound_nowhere, there, in_there, found_there, released_lists, restart_lists, hit_lists}

-- the lowest frequency is read alike from lists of slots and from the ledger's
pub lowest_levels : (k e : List ℕ) (ls : List levels.Level) → lowest_frequency ls ≡ lowest_of (levels_at k e ls)
lowest_levels k e [] = refl
lowest_levels k e (l ∷ ls) = refl

-- stores at x leave the cells of other slots
away : (k e : List ℕ) (x v w y : ℕ) → y ≢ x → SameCells k e (set k x v) (set e x w) y
away k e x v w y d = (get_or-set_other k x y v 0 d, get_or-set_other e x y w 0 d)

-- the free order is made of slots that are not bound
free_out : (l : Ledger) → WellFormed l → (x : ℕ) → 1 ≤ times x l.free → BoundSlot l x → ⊥
free_out l w x f b = let c = w.slots x in let m = below_le x l.capacity in absurd (omega arith)

-- the field `lowest`, from what is read of the lists
lowest_read : (f p n b sp : List ℕ) (bk : Buckets) (low : ℕ) (k e : List ℕ) (ls : List levels.Level) (ms : List Level) →
    LowestFrequency b bk low → Held (tabs f p n b sp) bk ls → ms ≡ levels_at k e ls → low ≡ lowest_of ms
lowest_read f p n b sp bk low k e ls ms r held e' = r.answer f p n sp ls held ∙ lowest_levels k e ls ∙ ap lowest_of (sym e')

-- a slot that is not in the index can be written before it is put in
pub vacant_in : (k e i : List ℕ) (x key : ℕ) → Vacant k e i x → IndexSound i (set k x key) × (x < length (set k x key))
vacant_in k e i x key v = (
  sound_frame i k (set k x key) (length-set k x key) v.index_sound
      (λ y has. get_or-set_other k x y key 0 (λ q. v.out (subst (index.Has i k) q has))),
  lt-length-set k x key v.slot.0,
)

module _ (t : Tables) (s : State) (l : Ledger) (h : Holds t s l) where
  -- A key is bound

  module _ (key x : ℕ) (rest : List ℕ) (absent : lookup key l ≡ none) (free_is : l.free ≡ x ∷ rest) where
    first_free : (x < l.capacity) × (times x rest ≡ 0)
    first_free = free_slot l h.formed x rest free_is

    pub free_unbound : BoundSlot l x → ⊥
    free_unbound = free_out l h.formed x (let e = ap (times x) free_is in omega (arith, one_same x x refl))

    module _ (k' e' i' : List ℕ) (enters : EntersIndex t.keys t.epochs t.index x key s.epoch k' e' i') where
      key_there : cells k' x ≡ key
      key_there = rw enters.keys_are (get_or-set_same t.keys x key 0 (let a = h.sized.keys_size in let b = first_free.0 in omega arith))

      epoch_there : cells e' x ≡ s.epoch
      epoch_there = rw enters.epochs_are (get_or-set_same t.epochs x s.epoch 0 (let a = h.sized.epochs_size in let b = first_free.0 in omega arith))

      stays : (y : ℕ) → y ≢ x → SameCells t.keys t.epochs k' e' y
      stays y d = rw (enters.keys_are, enters.epochs_are) (away t.keys t.epochs x key s.epoch y d)

      keys_length : length k' ≡ length t.keys
      keys_length = ap length enters.keys_are ∙ length-set t.keys x key

      same_has : (y : ℕ) → index.Has t.index k' y ↔ index.Has t.index t.keys y
      same_has = has_frame t.index t.keys k' keys_length

      -- no slot in the index has the key
      key_absent : index.Absent t.index k' (cells k' x)
      key_absent y has q =
          let b = (h.indexed y).0 ((same_has y).0 has) in
          let p = bound_place t s l h y b in
          let d : y ≢ x = λ e. free_unbound (subst (BoundSlot l) e b) in
          let e : cells t.keys y ≡ key = sym (stays y d).0 ∙ q ∙ key_there in
          let f : none ≡ some (there t s l h y p) = sym absent ∙ ap (λ (j : ℕ). lookup j l) (sym e) ∙ found_there t s l h y p in
          let z : ◌≡◌ {A = ℕ} 0 1 = cc in
          absurd (omega arith)

      bound_now : (y : ℕ) → BoundSlot (put key x rest l) y ↔ ((y ≡ x) ⊎ BoundSlot l y)
      bound_now y =
          let q = ap (slotted y) (items_link FIRST (record { key = key; slot = x; epoch = l.epoch }) 0 l.levels h.formed.rising) in
          let c = sum_place (λ z. one z.slot y) (item FIRST (record { key = key; slot = x; epoch = l.epoch })) (items l.levels) in (
            λ b. if_eq (λ n. n + slotted y (items l.levels) ≡ slotted y (items (put key x rest l).levels) → (y ≡ x) ⊎ BoundSlot l y) x y (λ e _. inl (sym e)) (λ d g. inr (omega arith)) (sym c ∙ sym q),
            ⊎_elim (λ e. omega (arith, one_same x y (sym e))) (λ b. omega arith),
          )

      entries_now : (put key x rest l).levels ≡ levels_at k' e' (join x FIRST h.slots)
      entries_now =
          link_from FIRST (record { key = key; slot = x; epoch = l.epoch }) l.levels (rising_above 0 l.levels h.formed.rising)
          ∙ (λ i. joined FIRST (record { key = sym key_there i; slot = x; epoch = (sym h.epoch ∙ sym epoch_there) i }) (same_lists i))
          ∙ sym (levels_join k' e' x FIRST h.slots)
        where
          same_lists : l.levels ≡ levels_at k' e' h.slots
          same_lists = h.entries ∙ sym (levels_away t.keys t.epochs k' e' x stays h.slots (unbound_nowhere t s l h x free_unbound))

      zeros_now : All (Blank k' e') rest
      zeros_now = still_blank t.keys t.epochs k' e' x stays rest (times_without x rest first_free.1) (rw free_is at h.zeros).1

      module _ (a' : List ℕ) (took : Slot) (o' : Order) (takes : arena.Takes t.arena s.free a' took o') (f' p' n' b' sp' : List ℕ) (bk : Buckets)
          (binds : LevelBinds (leveled t) s.buckets x (tabs f' p' n' b' sp') bk) (low : ℕ) (reads : LowestFrequency b' bk low)
          (sized : Sized (tables k' f' e' p' n' a' i' b' sp') l.capacity) where
        lists_now : Held (tabs f' p' n' b' sp') bk (join x FIRST h.slots)
        lists_now = binds.holds h.slots h.lists

        pub put_holds : Holds (tables k' f' e' p' n' a' i' b' sp') (recounted s (s.count + 1) low o' bk) (put key x rest l)
        put_holds =
            let formed = put_formed l h.formed key x rest (found_none key (items l.levels) absent) free_is in
            record {
              formed = formed;
              limit = h.limit;
              capacity = h.capacity;
              sized = sized;
              count =
                  let a = size_and_free l h.formed in
                  let b = size_and_free (put key x rest l) formed in
                  let c = ap length free_is in
                  let d = h.count in
                  omega arith;
              lowest = lowest_read f' p' n' b' sp' bk low k' e' (join x FIRST h.slots) (put key x rest l).levels reads lists_now entries_now;
              epoch = h.epoch;
              slots = join x FIRST h.slots;
              lists = lists_now;
              entries = entries_now;
              free = takes.holds x rest (rw free_is at h.free);
              zeros = zeros_now;
              index_sound = enters.index_is.sound key_absent;
              indexed = λ y.
                  let i = enters.index_is.has key_absent y in
                  let b = bound_now y in
                  let g = same_has y in
                  let o = h.indexed y in
                  (λ has. b.1 (⊎_elim (λ e. inl e) (λ w. inr (o.0 (g.0 w))) (i.0 has)), λ w. i.1 (⊎_elim (λ e. inl e) (λ v. inr (g.1 (o.1 v))) (b.0 w)));
            }

  -- A bound slot

  module _ (x : ℕ) (p : Place h.slots x) where
    abbrev me : Item
    me = there t s l h x p

    bound_x : (x < l.capacity) × (times x l.free ≡ 0)
    bound_x = bound_slot l h.formed me (in_there t s l h x p)

    not_free : Without x l.free
    not_free = times_without x l.free bound_x.1

    pub held_there : Held (leveled t) s.buckets (p.us ++ levels.level p.freq (p.xs ++ x ∷ p.ys) ∷ p.vs)
    held_there = subst (Held (leveled t) s.buckets) p.is h.lists

    -- It moves to the head of list `to`, with the current epoch. A hit and a restart are this; they differ in where the slot ends

    module _ (f' p' n' b' sp' : List ℕ) (bk : Buckets) (e' : List ℕ) (epochs_are : e' ≡ set t.epochs x s.epoch) (low : ℕ) (reads : LowestFrequency b' bk low)
        (sized : Sized (tables t.keys f' e' p' n' t.arena t.index b' sp') l.capacity) where
      stays_moved : (y : ℕ) → y ≢ x → SameCells t.keys t.epochs t.keys e' y
      stays_moved y d = (refl, rw epochs_are (get_or-set_other t.epochs x y s.epoch 0 d))

      epoch_moved : cells e' x ≡ l.epoch
      epoch_moved =
          rw epochs_are (get_or-set_same t.epochs x s.epoch 0 (let a = h.sized.epochs_size in let b = bound_x.0 in omega arith)) ∙ h.epoch

      module _ (to : ℕ) (fits : (1 ≤ to) × (to ≤ CEILING)) (slots-moved : List levels.Level) (lists-moved : Held (tabs f' p' n' b' sp') bk slots-moved)
          (ends : levels_at t.keys e' slots-moved ≡ link to (entry_at t.keys e' x) (unlink (cells t.keys x) l.levels)) where
        entries_moved : (move me to l).levels ≡ levels_at t.keys e' slots-moved
        entries_moved =
            ap (λ (d : Entry). link to d (unlink (cells t.keys x) l.levels)) (λ i. record { key = cells t.keys x; slot = x; epoch = sym epoch_moved i })
            ∙ sym ends

        slotted_moved : (y : ℕ) → slotted y (items (move me to l).levels) ≡ slotted y (items l.levels)
        slotted_moved y =
            let a = ap (slotted y) (items_move me to l h.formed.rising) in
            let b = sum_place (λ z. one z.slot y) (item to (record { key = me.key; slot = x; epoch = l.epoch })) (cut me.key (items l.levels)) in
            let c = sum_cut_in (λ z. one z.slot y) (items l.levels) me (in_there t s l h x p) (h.formed.keys me.key) in
            omega arith

        move_holds : Holds (tables t.keys f' e' p' n' t.arena t.index b' sp') (recounted s s.count low s.free bk) (move me to l)
        move_holds =
            let formed = move_formed l h.formed me to (in_there t s l h x p) fits.0 fits.1 in
            record {
              formed = formed;
              limit = h.limit;
              capacity = h.capacity;
              sized = sized;
              count =
                  let a = size_and_free l h.formed in
                  let b = size_and_free (move me to l) formed in
                  let d = h.count in
                  omega arith;
              lowest = lowest_read f' p' n' b' sp' bk low t.keys e' slots-moved _ reads lists-moved entries_moved;
              epoch = h.epoch;
              slots = slots-moved;
              lists = lists-moved;
              entries = entries_moved;
              free = h.free;
              zeros = still_blank t.keys t.epochs t.keys e' x stays_moved l.free not_free h.zeros;
              index_sound = h.index_sound;
              indexed = λ y. let q = slotted_moved y in let o = h.indexed y in (λ has. let b = o.0 has in omega arith, λ b. o.1 (omega arith));
            }

      pub hit_holds : (cap : ℕ) → cap ≤ CEILING → Held (tabs f' p' n' b' sp') bk (p.us ++ touched cap x p.freq (p.xs ++ p.ys) p.vs) →
          Holds (tables t.keys f' e' p' n' t.arena t.index b' sp') (recounted s s.count low s.free bk) (move me (raised cap p.freq) l)
      hit_holds cap cap-fits lists =
          move_holds (raised cap p.freq) (raised_fits l h.formed cap me (in_there t s l h x p) cap-fits) _ lists
          (hit_lists t s l h x p t.keys e' stays_moved cap)

      pub restart_holds : Held (tabs f' p' n' b' sp') bk (join x FIRST (p.us ++ keep p.freq (p.xs ++ p.ys) p.vs)) →
          Holds (tables t.keys f' e' p' n' t.arena t.index b' sp') (recounted s s.count low s.free bk) (restart me l)
      restart_holds lists = move_holds FIRST (omega arith, omega arith) _ lists (restart_lists t s l h x p t.keys e' stays_moved)

    -- It is let go

    module _ (k' e' i' : List ℕ) (leaves : LeavesIndex t.keys t.epochs t.index x k' e' i') (f' p' n' b' sp' : List ℕ) (bk : Buckets)
        (unbinds : Unbinds (leveled t) s.buckets x (tabs f' p' n' b' sp') bk) (a' : List ℕ) (o' : Order)
        (releases : arena.Releases t.arena s.free x a' o') (low : ℕ) (reads : LowestFrequency b' bk low)
        (sized : Sized (tables k' f' e' p' n' a' i' b' sp') l.capacity) where
      abbrev slots_left : List levels.Level
      slots_left = p.us ++ keep p.freq (p.xs ++ p.ys) p.vs

      lists_left : Held (tabs f' p' n' b' sp') bk slots_left
      lists_left = unbinds.holds p.us p.freq p.xs p.ys p.vs held_there

      stays_left : (y : ℕ) → y ≢ x → SameCells t.keys t.epochs k' e' y
      stays_left y d = rw (leaves.keys_are, leaves.epochs_are) (away t.keys t.epochs x 0 0 y d)

      entries_left : (release me l).levels ≡ levels_at k' e' slots_left
      entries_left = sym (released_lists t s l h x p k' e' stays_left)

      has_x : index.Has t.index t.keys x
      has_x = (h.indexed x).1 (let c = in_sum (λ (z : Item). one z.slot x) (items l.levels) me (in_there t s l h x p) in omega (arith, one_same x x refl))

      keys_left : length k' ≡ length t.keys
      keys_left = ap length leaves.keys_are ∙ length-set t.keys x 0

      has_left : (y : ℕ) → index.Has i' k' y ↔ (index.Has t.index t.keys y × (y ≢ x))
      has_left y =
          let f = has_frame i' t.keys k' keys_left y in
          let g = leaves.index_is.has has_x y in
          (λ w. g.0 (f.0 w), λ w. f.1 (g.1 w))

      slotted_left : (y : ℕ) → slotted y (items (release me l).levels) + one x y ≡ slotted y (items l.levels)
      slotted_left y =
          let a = ap (slotted y) (items_unlink me.key l.levels) in
          let c = sum_cut_in (λ z. one z.slot y) (items l.levels) me (in_there t s l h x p) (h.formed.keys me.key) in
          omega arith

      -- a slot is bound after it exactly if it was, and is another
      bound_left : (y : ℕ) → BoundSlot (release me l) y ↔ (BoundSlot l y × (y ≢ x))
      bound_left y =
          let q = slotted_left y in
          let w = h.formed.slots y in
          let m = below_le y l.capacity in (
            λ b. (omega arith, λ e. absurd (omega (arith, one_same x y (sym e)))),
            λ b. let c = b.0 in omega (arith, one_other x y (λ e. b.1 (sym e))),
          )

      blank_left : Blank k' e' x
      blank_left = (
        rw leaves.keys_are (get_or-set_same t.keys x 0 0 (let a = h.sized.keys_size in let b = bound_x.0 in omega arith)),
        rw leaves.epochs_are (get_or-set_same t.epochs x 0 0 (let a = h.sized.epochs_size in let b = bound_x.0 in omega arith)),
      )

      pub release_holds : Holds (tables k' f' e' p' n' a' i' b' sp') (recounted s (s.count - 1) low o' bk) (release me l)
      release_holds =
          let formed = release_formed l h.formed me (in_there t s l h x p) in
          record {
            formed = formed;
            limit = h.limit;
            capacity = h.capacity;
            sized = sized;
            count =
                let a = size_and_free l h.formed in
                let b = size_and_free (release me l) formed in
                let d = h.count in
                omega (arith, length-append l.free (x ∷ []));
            lowest = lowest_read f' p' n' b' sp' bk low k' e' slots_left _ reads lists_left entries_left;
            epoch = h.epoch;
            slots = slots_left;
            lists = lists_left;
            entries = entries_left;
            free = releases.holds l.free h.free ((in_use_exact t.arena s.free l.free h.free x).1 (let a = h.sized.arena_size in let b = bound_x.0 in omega arith, not_free));
            zeros =
                all_append (Blank k' e') l.free (x ∷ []) (still_blank t.keys t.epochs k' e' x stays_left l.free not_free h.zeros) (blank_left, tt);
            index_sound =
                sound_frame i' t.keys k' keys_left (leaves.index_is.sound has_x) (λ y w. (stays_left y ((leaves.index_is.has has_x y).0 w).1).0);
            indexed = λ y.
                let i = has_left y in
                let b = bound_left y in
                let o = h.indexed y in
                (λ w. let v = i.0 w in b.1 (o.0 v.0, v.1), λ w. let v = b.0 w in i.1 (o.1 v.0, v.1));
          }
