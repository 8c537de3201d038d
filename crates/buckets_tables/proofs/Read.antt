-- The tables hold at most one ledger, and `ledger_of` reads it off. A chain that is followed for as many steps as there are slots is
-- met whole; rings of links are such chains.
use Rattle.std.proofs.Common.{◌≡◌, ℕ, zero, suc, ◌<◌, ◌≤◌, List, [], ◌∷◌, map, length, sym, refl, ap, ◌∙◌, subst, le_of_suc-le-suc, not-suc-le-zero, arith}
use Rattle.numbers.specs.Marks.{NONE}
use Rattle.lists.specs.Lists.{All}
use Rattle.lists.proofs.Tests.{if_less, if_not_less}
use Rattle.lists.proofs.Members.{all_map}
use Rattle.ledger.specs.Ledger.{Ledger}
use Rattle.links.specs.Chain.{cells, Chain}
use Rattle.links.specs.Ring.{Links, look}
use Rattle.links.proofs.Chains.{chain_length}
use Rattle.links.proofs.Functions.{look_end, look_at}
use Rattle.slot_arena.specs.Arena.{InUse}
use Rattle.bucket_table.specs.Records.{nums, Written, higher}
use Rattle.levels.specs.Levels as levels
use Rattle.levels.specs.Held.{Line, rows, view, LineHeld}
use Rattle.buckets_tables.specs.declared.State.{State}
use Rattle.buckets_tables.specs.Tables.{Tables}
use Rattle.buckets_tables.specs.Holds.{levels_at, Holds}
use Rattle.buckets_tables.specs.LedgerOf.{followed, list_at, slots_of, ledger_of}

chain_followed : (k size : ℕ) (n : ℕ → ℕ) (f : ℕ) (xs : List ℕ) → size ≤ NONE → length xs ≤ k → Chain size n f xs → followed k size n f ≡ xs
unfolding followed
chain_followed zero size n f [] l h p = refl
chain_followed zero size n f (x ∷ xs) l h p = absurd (not-suc-le-zero h)
chain_followed (suc k) size n f [] l h p = if_not_less f size _ _ (omega arith)
chain_followed (suc k) size n f (x ∷ xs) l h p =
    if_less f size _ _ (omega arith)
    ∙ ap (λ (z : ℕ). z ∷ followed k size n (n z)) p.0
    ∙ ap (λ (r : List ℕ). x ∷ r) (chain_followed k size n (n x) xs l (le_of_suc-le-suc h) p.2)

-- a ring from NONE to NONE is a chain from its end
links_chain : (size : ℕ) (n p : ℕ → ℕ) (e : ℕ) (a : ℕ) (xs : List ℕ) → size ≤ NONE → All (λ x. x < size) xs → Links (look n e) p a xs NONE → Chain size n (look n e a) xs
links_chain size n p e a [] l h k = k.0
links_chain size n p e a (x ∷ xs) l h k =
    let b = h.0 in
    (k.0, h.0, subst (λ (z : ℕ). Chain size n z xs) (look_at n e x (λ q. absurd (omega arith))) (links_chain size n p e x xs l h.1 k.2))

ring_followed : (size : ℕ) (n p : ℕ → ℕ) (e : ℕ) (xs : List ℕ) → size ≤ NONE → All (λ x. x < size) xs → Links (look n e) p NONE xs NONE → followed size size n e ≡ xs
ring_followed size n p e xs l h k =
    let c = subst (λ (z : ℕ). Chain size n z xs) (look_end n e) (links_chain size n p e NONE xs l h k) in
    chain_followed size size n e xs l (chain_length size n l e xs c) c

module _ (t : Tables) (s : State) (l : Ledger) (h : Holds t s l) where
  small : s.capacity ≤ NONE
  small = let a = h.limit in let b = h.capacity in omega arith

  -- the list of one record
  list_read : (m : Line) → LineHeld t.freqs t.prevs t.nexts t.buckets m → Written t.buckets m.row →
      list_at t s.capacity m.row.num ≡ levels.level m.row.freq m.slots
  list_read m k w =
      let a = h.sized.prevs_size in
      let b = h.capacity in
      let xs : followed s.capacity s.capacity (cells t.nexts) m.row.ends.head ≡ m.slots
      = ring_followed s.capacity (cells t.nexts) _ m.row.ends.head m.slots small
      (all_map (λ x. x < length t.prevs) (λ x. x < s.capacity) (λ x q. omega arith) m.slots k.ring.slots) k.ring.links in
      λ i. levels.level (w.freq_is i) ((ap (followed s.capacity s.capacity (cells t.nexts)) w.head_is ∙ xs) i)

  lists_read : (ms : List Line) → All (LineHeld t.freqs t.prevs t.nexts t.buckets) ms → All (Written t.buckets) (rows ms) →
      map (list_at t s.capacity) (nums (rows ms)) ≡ view ms
  lists_read [] k w = refl
  lists_read (m ∷ ms) k w = λ i. list_read m k.0 w.0 i ∷ lists_read ms k.1 w.1 i

  slots_read : slots_of t s ≡ h.slots
  slots_read =
      let r = h.lists.rep in
      let a = h.sized.spares_size in
      let b = h.capacity in
      let numbers : followed s.capacity s.capacity (higher t.buckets) s.buckets.bottom ≡ nums (rows h.lists.lines)
      = ring_followed s.capacity (higher t.buckets) _ s.buckets.bottom (nums (rows h.lists.lines)) small
      (all_map (InUse t.spares) (λ x. x < s.capacity) (λ x q. let z = q.0 in omega arith) (nums (rows h.lists.lines)) r.records.uses.marks) r.records.ring in
      ap (map (list_at t s.capacity)) numbers ∙ lists_read h.lists.lines r.each r.records.each ∙ h.lists.seen

  free_read : followed s.capacity s.capacity (cells t.arena) s.free.first ≡ l.free
  free_read =
      let a : length t.arena ≡ s.capacity = h.sized.arena_size ∙ sym h.capacity in
      let k : Chain s.capacity (cells t.arena) s.free.first l.free = subst (λ (z : ℕ). Chain z (cells t.arena) s.free.first l.free) a h.free.chain in
      chain_followed s.capacity s.capacity (cells t.arena) s.free.first l.free small
      (chain_length s.capacity (cells t.arena) small s.free.first l.free k) k

  -- `ledger_of` is the ledger that the tables hold.
  pub ledger_of_lem : ledger_of t s ≡ l
  unfolding ledger_of
  ledger_of_lem = λ i. record {
    capacity = h.capacity i;
    epoch = h.epoch i;
    levels = (ap (levels_at t.keys t.epochs) slots_read ∙ sym h.entries) i;
    free = free_read i;
  }

-- The tables hold one ledger at most.
pub holds_one : (t : Tables) (s : State) (l m : Ledger) → Holds t s l → Holds t s m → l ≡ m
holds_one t s l m h k = sym (ledger_of_lem t s l h) ∙ ledger_of_lem t s m k
