-- What a ledger determines of the tables that hold it: every cell but those of the index, of the bucket records and of their spares,
-- and the state but for where the records lie. Each slot is bound or free; a bound one has its cells from its entry and its neighbours
-- in its list, a free one is blank.
use Rattle.std.proofs.Common.{◌≡◌, ℕ, ◌<◌, ◌≤◌, ◌≢◌, ◌⊎◌, List, [], ◌∷◌, ◌++◌, length, sym, refl, ◌∙◌, subst, inl, inr, ⊎_elim, arith, ext_get_or}
use Rattle.numbers.specs.Marks.{NONE}
use Rattle.lists.specs.Lists.{All, In, Without, times}
use Rattle.lists.proofs.Tests.{by_lt, by_eq}
use Rattle.lists.proofs.Members.{all_in, all_map, all_both, all_mid, in_times, times_in, times_without}
use Rattle.lists.proofs.Maps.{images_all, all_images}
use Rattle.ledger.specs.Ledger.{Ledger}
use Rattle.ledger.proofs.Slots.{below_yes, below_not, below_le}
use Rattle.ledger.proofs.Split.{level_of}
use Rattle.links.specs.Chain.{cells, Chain}
use Rattle.links.specs.Ring.{Links, look}
use Rattle.links.specs.Linked.{Ring, linked}
use Rattle.links.specs.declared.Ends.{Ends}
use Rattle.links.proofs.Functions.{look_at}
use Rattle.slot_arena.specs.declared.Order.{Order}
use Rattle.slot_arena.specs.Arena.{ArenaHolds}
use Rattle.levels.specs.Levels as levels
use Rattle.levels.specs.Held.{Line, LineHeld, Free, Held}
use Rattle.buckets_tables.specs.declared.State.{State}
use Rattle.buckets_tables.specs.Tables.{Tables, leveled}
use Rattle.buckets_tables.specs.Holds.{entry_at, entries_at, levels_at, BoundSlot, Blank, Holds}
use Rattle.buckets_tables.proofs.Places.{bound_place, unbound_nowhere, there, in_there}
use Rattle.buckets_tables.proofs.Found.{stands}

-- The order of the free slots

head_one : (size : ℕ) (m n : ℕ → ℕ) (f g : ℕ) (xs : List ℕ) → Chain size m f xs → Chain size n g xs → f ≡ g
head_one size m n f g [] p q = p ∙ sym q
head_one size m n f g (x ∷ xs) p q = p.0 ∙ sym q.0

-- two chains through the same places agree there
chain_agree : (size : ℕ) (m n : ℕ → ℕ) (f g : ℕ) (xs : List ℕ) → Chain size m f xs → Chain size n g xs → All (λ x. m x ≡ n x) xs
chain_agree size m n f g [] p q = tt
chain_agree size m n f g (x ∷ xs) p q = (head_one size m n (m x) (n x) xs p.2 q.2, chain_agree size m n (m x) (n x) xs p.2 q.2)

arena_one : (t u : List ℕ) (o d : Order) (free : List ℕ) → length t ≡ length u → ArenaHolds t o free → ArenaHolds u d free → (t ≡ u) × (o ≡ d)
arena_one t u o d free e h k =
    let q : Chain (length t) (cells u) d.first free = subst (λ (z : ℕ). Chain z (cells u) d.first free) (sym e) k.chain in
    let same = chain_agree (length t) (cells t) (cells u) o.first d.first free h.chain q in (
      ext_get_or 0 t u e (λ i b.
          by_eq (times i free) 0
          (λ z. h.others i b (times_without i free z) ∙ sym (k.others i (omega arith) (times_without i free z)))
          (λ z. all_in (λ x. cells t x ≡ cells u x) free i same (times_in i free (omega arith)))),
      λ j. record { first = head_one (length t) (cells t) (cells u) o.first d.first free h.chain q j; last = (h.last ∙ sym k.last) j },
    )

-- The links of the lists

links_agree : (n p m q : ℕ → ℕ) (a : ℕ) (xs : List ℕ) (z : ℕ) → Links n p a xs z → Links m q a xs z → (n a ≡ m a) × All (λ x. (n x ≡ m x) × (p x ≡ q x)) xs
links_agree n p m q a [] z k l = (k.0 ∙ sym l.0, tt)
links_agree n p m q a (x ∷ xs) z k l =
    let r = links_agree n p m q x xs z k.2 l.2 in
    (k.0 ∙ sym l.0, ((r.0, k.1 ∙ sym l.1), r.1))

-- the lists of slots are read off the ledger's lists
entries_slots : (k e k' e' : List ℕ) (xs ys : List ℕ) → entries_at k e xs ≡ entries_at k' e' ys → xs ≡ ys
entries_slots k e k' e' [] [] q = refl
entries_slots k e k' e' [] (y ∷ ys) q = let z : ◌≡◌ {A = ℕ} 0 1 = cc in absurd (omega arith)
entries_slots k e k' e' (x ∷ xs) [] q = let z : ◌≡◌ {A = ℕ} 0 1 = cc in absurd (omega arith)
entries_slots k e k' e' (x ∷ xs) (y ∷ ys) q =
    let a : entry_at k e x ≡ entry_at k' e' y = cc in
    let b : entries_at k e xs ≡ entries_at k' e' ys = cc in
    λ i. (a i).slot ∷ entries_slots k e k' e' xs ys b i

levels_slots : (k e k' e' : List ℕ) (ls ms : List levels.Level) → levels_at k e ls ≡ levels_at k' e' ms → ls ≡ ms
levels_slots k e k' e' [] [] q = refl
levels_slots k e k' e' [] (m ∷ ms) q = let z : ◌≡◌ {A = ℕ} 0 1 = cc in absurd (omega arith)
levels_slots k e k' e' (l ∷ ls) [] q = let z : ◌≡◌ {A = ℕ} 0 1 = cc in absurd (omega arith)
levels_slots k e k' e' (l ∷ ls) (m ∷ ms) q =
    let a : level_of l.freq (entries_at k e l.slots) ≡ level_of m.freq (entries_at k' e' m.slots) = cc in
    let b : levels_at k e ls ≡ levels_at k' e' ms = cc in
    let c = entries_slots k e k' e' l.slots m.slots (λ i. (a i).entries) in
    λ i. levels.level (a i).frequency (c i) ∷ levels_slots k e k' e' ls ms b i

-- a list in the tables: linked from some head to some tail
abbrev Linked : (p n : List ℕ) → levels.Level → Type 0
Linked p n m = (e : Ends) × Ring (linked p n e) m.slots

all_linked : (t : Tables) (s : State) (ls : List levels.Level) → Held (leveled t) s.buckets ls → All (Linked t.prevs t.nexts) ls
all_linked t s ls h =
    rw h.seen at
    (all_images (λ (m : Line). levels.level m.row.freq m.slots) (Linked t.prevs t.nexts) h.lines
    (all_map (LineHeld t.freqs t.prevs t.nexts t.buckets) (λ (m : Line). Linked t.prevs t.nexts (levels.level m.row.freq m.slots))
    (λ m k. (m.row.ends, k.ring)) h.lines h.rep.each))

-- the same list has the same links in any tables
linked_agree : (p n q m : List ℕ) (l : levels.Level) → length p ≤ NONE → Linked p n l → Linked q m l → All (λ x. (cells n x ≡ cells m x) × (cells p x ≡ cells q x)) l.slots
linked_agree p n q m l b h k =
    all_both (λ x. x < length p) (λ x. (look (cells n) h.0.head x ≡ look (cells m) k.0.head x) × (look (cells p) h.0.tail x ≡ look (cells q) k.0.tail x))
    (λ x. (cells n x ≡ cells m x) × (cells p x ≡ cells q x))
    (λ x i e.
    let d : x ≢ NONE = λ z. absurd (omega arith) in (
      sym (look_at (cells n) h.0.head x d) ∙ e.0 ∙ look_at (cells m) k.0.head x d,
      sym (look_at (cells p) h.0.tail x d) ∙ e.1 ∙ look_at (cells q) k.0.tail x d,
    ))
    l.slots h.1.slots
    (links_agree (look (cells n) h.0.head) (look (cells p) h.0.tail) (look (cells m) k.0.head) (look (cells q) k.0.tail) NONE l.slots NONE h.1.links k.1.links).1

-- Slot by slot

module _ (t t' : Tables) (s s' : State) (l : Ledger) (h : Holds t s l) (k : Holds t' s' l) where
  same_slots : k.slots ≡ h.slots
  same_slots = levels_slots t'.keys t'.epochs t.keys t.epochs k.slots h.slots (sym k.entries ∙ h.entries)

  -- a slot is bound or free
  bound_or_free : (i : ℕ) → i < l.capacity → BoundSlot l i ⊎ In i l.free
  bound_or_free i b =
      let w = h.formed.slots i in
      let y = below_yes i l.capacity b in
      by_eq (times i l.free) 0 (λ z. inl (omega arith)) (λ z. inr (times_in i l.free (omega arith)))

  pub record Alike (i : ℕ) : Type 0 where
    pub key_same : cells t.keys i ≡ cells t'.keys i
    pub freq_same : cells t.freqs i ≡ cells t'.freqs i
    pub epoch_same : cells t.epochs i ≡ cells t'.epochs i
    pub prev_same : cells t.prevs i ≡ cells t'.prevs i
    pub next_same : cells t.nexts i ≡ cells t'.nexts i

  links_same : All (λ (m : levels.Level). All (λ x. (cells t.nexts x ≡ cells t'.nexts x) × (cells t.prevs x ≡ cells t'.prevs x)) m.slots) h.slots
  links_same =
      let small : length t.prevs ≤ NONE = (let a = h.sized.prevs_size in let b = h.limit in omega arith) in
      all_both (Linked t.prevs t.nexts) (Linked t'.prevs t'.nexts)
      (λ (m : levels.Level). All (λ x. (cells t.nexts x ≡ cells t'.nexts x) × (cells t.prevs x ≡ cells t'.prevs x)) m.slots)
      (λ m a b. linked_agree t.prevs t.nexts t'.prevs t'.nexts m small a b) h.slots
      (all_linked t s h.slots h.lists) (rw same_slots at (all_linked t' s' k.slots k.lists))

  bound_alike : (i : ℕ) → BoundSlot l i → Alike i
  bound_alike i b =
      let p = bound_place t s l h i b in
      let y = there t s l h i p in
      let d = stands t s l h y (in_there t s l h i p) in
      let d' = stands t' s' l k y (in_there t s l h i p) in
      let n =
      (all_mid (λ x. (cells t.nexts x ≡ cells t'.nexts x) × (cells t.prevs x ≡ cells t'.prevs x)) p.xs i p.ys
      (all_mid (λ (m : levels.Level). All (λ x. (cells t.nexts x ≡ cells t'.nexts x) × (cells t.prevs x ≡ cells t'.prevs x)) m.slots) p.us (levels.level p.freq (p.xs ++ i ∷ p.ys)) p.vs
      (rw p.is at links_same)).0).0 in
      record {
        key_same = d.key ∙ sym d'.key;
        freq_same = d.frequency ∙ sym d'.frequency;
        epoch_same = d.epoch ∙ sym d'.epoch;
        prev_same = n.1;
        next_same = n.0;
      }

-- a free slot's links are its own number, and its frequency is 0
free_cells : (t : Tables) (s : State) (l : Ledger) (h : Holds t s l) (i : ℕ) → In i l.free → Free t.freqs t.prevs t.nexts i
free_cells t s l h i f =
    let w = h.formed.slots i in
    let c = in_times i l.free f in
    let m = below_le i l.capacity in
    let b : i < l.capacity = by_lt i l.capacity (λ q. q) (λ q. let z = below_not i l.capacity q in absurd (omega arith)) in
    h.lists.rep.free i (let a = h.sized.freqs_size in omega arith)
    (images_all (λ (m : Line). levels.level m.row.freq m.slots) (λ (m : levels.Level). Without i m.slots) h.lists.lines
    (rw h.lists.seen (unbound_nowhere t s l h i (λ b. absurd (omega arith)))))

-- All that two readings of one ledger have in common: the cells that it determines, and the fields of the state.
pub record Same (t t' : Tables) (s s' : State) : Type 0 where
  pub keys : t.keys ≡ t'.keys
  pub freqs : t.freqs ≡ t'.freqs
  pub epochs : t.epochs ≡ t'.epochs
  pub prevs : t.prevs ≡ t'.prevs
  pub nexts : t.nexts ≡ t'.nexts
  pub arena : t.arena ≡ t'.arena
  pub capacity : s.capacity ≡ s'.capacity
  pub count : s.count ≡ s'.count
  pub lowest : s.lowest ≡ s'.lowest
  pub epoch : s.epoch ≡ s'.epoch
  pub free : s.free ≡ s'.free

module _ (t t' : Tables) (s s' : State) (l : Ledger) (h : Holds t s l) (k : Holds t' s' l) where
  free_alike : (i : ℕ) → In i l.free → Alike t t' s s' l h k i
  free_alike i f =
      let z = all_in (Blank t.keys t.epochs) l.free i h.zeros f in
      let z' = all_in (Blank t'.keys t'.epochs) l.free i k.zeros f in
      let c = free_cells t s l h i f in
      let c' = free_cells t' s' l k i f in
      record {
        key_same = z.0 ∙ sym z'.0;
        freq_same = c.freq_zero ∙ sym c'.freq_zero;
        epoch_same = z.1 ∙ sym z'.1;
        prev_same = c.prev_own ∙ sym c'.prev_own;
        next_same = c.next_own ∙ sym c'.next_own;
      }

  alike : (i : ℕ) → i < l.capacity → Alike t t' s s' l h k i
  alike i b = ⊎_elim (bound_alike t t' s s' l h k i) (free_alike i) (bound_or_free t t' s s' l h k i b)

  table_same : (u v : List ℕ) → length u ≡ l.capacity → length v ≡ l.capacity → ((i : ℕ) → i < l.capacity → cells u i ≡ cells v i) → u ≡ v
  table_same u v a b f = ext_get_or 0 u v (a ∙ sym b) (λ i c. f i (omega arith))

  pub determined : Same t t' s s'
  determined =
      let a = h.sized in
      let b = k.sized in
      let o = arena_one t.arena t'.arena s.free s'.free l.free (a.arena_size ∙ sym b.arena_size) h.free k.free in
      record {
        keys = table_same t.keys t'.keys a.keys_size b.keys_size (λ i c. (alike i c).key_same);
        freqs = table_same t.freqs t'.freqs a.freqs_size b.freqs_size (λ i c. (alike i c).freq_same);
        epochs = table_same t.epochs t'.epochs a.epochs_size b.epochs_size (λ i c. (alike i c).epoch_same);
        prevs = table_same t.prevs t'.prevs a.prevs_size b.prevs_size (λ i c. (alike i c).prev_same);
        nexts = table_same t.nexts t'.nexts a.nexts_size b.nexts_size (λ i c. (alike i c).next_same);
        arena = o.0;
        capacity = h.capacity ∙ sym k.capacity;
        count = h.count ∙ sym k.count;
        lowest = h.lowest ∙ sym k.lowest;
        epoch = h.epoch ∙ sym k.epoch;
        free = o.1;
      }
