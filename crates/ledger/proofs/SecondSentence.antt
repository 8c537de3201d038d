-- Demand 3, second sentence. While there is room or a guest without hits (`Soft`), an insert evicts no guest with hits, and every
-- insert that binds or evicts leaves a guest without hits behind: so it stays so, and only the first eviction of a run of inserts
-- can take a guest with hits.
use mathlib.Core.Path.{◌≡◌, refl, sym, ap, ◌∙◌, subst}
use mathlib.Core.Logic.{◌⊎◌, inl, inr, ◌≢◌, ⊎_elim}
use mathlib.Core.Bool.{cond}
use mathlib.Core.Option.{Option, none, some}
use mathlib.Core.List.{List, [], ◌∷◌, ◌++◌}
use Prim.Native.Nat.{ℕ, ◌+◌, ◌≤◌, ◌<◌}
use native.Mathlib.Omega.{arith}
use native.Mathlib.Decide.{ℕ_discrete}
use lib.Dec.{eqb}
use lib.ListN.{length, length-append}
use Rattle.lists.proofs.Tests.{if_same, if_other}
use Rattle.ledger.specs.Ledger.{Item, items, lookup, lowest}
use Rattle.ledger.specs.Cache.{Cache, Insertion, fresh, fresh_out, old, full, insert_full, insert_new, insert_at, cache_insert}
use Rattle.ledger.specs.History.{CacheCall, Insert, Get, Peek, Remove, Reset, PeekLfu, Evict, Clear, Len, inserted, does, log, after_all, says, Standing, unbound, guest, next, standing, Evicts, EvictedIn}
use Rattle.ledger.specs.Demand3.{EmptyCache, CALLS, HasHits, NoHits, GoesBefore, OnlyInserts, Spares, SecondSentence, IsGuest}
use Rattle.ledger.proofs.Items.{found_none}
use Rattle.ledger.proofs.Slots.{size_and_free}
use Rattle.ledger.proofs.Told.{Book}
use Rattle.ledger.proofs.Runs.{Inv, step, from_empty}
use Rattle.ledger.proofs.Parts.{part, part_length}
use Rattle.ledger.proofs.FirstSentence.{lowest_goes}
use Rattle.ledger.proofs.Counted.{guests_counted}

-- What an insert may do

data Goes (b : Book) (c : Cache) (k : ℕ) : Insertion → Cache → Type 0 where
  stays : {w : ℕ} {d : Cache} → d.table.free ≡ c.table.free → Goes b c k (old w) d
  refuses : Goes b c k full c
  enters : {d : Cache} → b k ≡ unbound → Goes b c k fresh d
  swaps : {d : Cache} (x : Item) → b k ≡ unbound → c.table.free ≡ [] → lowest c.table.levels ≡ some x → Goes b c k (fresh_out x.key) d

full_goes : (b : Book) (c : Cache) (k y : ℕ) (o : Option Item) → lowest c.table.levels ≡ o → c.table.free ≡ [] → b k ≡ unbound →
    Goes b c k (insert_full o k y c).0 (insert_full o k y c).1
full_goes b c k y none e q u = refuses
full_goes b c k y (some x) e q u = swaps x u q e

new_goes : (b : Book) (c : Cache) (k y : ℕ) (free : List ℕ) → c.table.free ≡ free → b k ≡ unbound → Goes b c k (insert_new free k y c).0 (insert_new free k y c).1
new_goes b c k y [] q u = full_goes b c k y (lowest c.table.levels) refl q u
new_goes b c k y (s ∷ rest) q u = enters u

insert_goes : (n now : ℕ) (b : Book) (c : Cache) (k y : ℕ) (o : Option Item) → Inv n now b c → lookup k c.table ≡ o →
    Goes b c k (insert_at o k y c).0 (insert_at o k y c).1
insert_goes n now b c k y none v e = new_goes b c k y c.table.free refl (v.told.others k (found_none k (items c.table.levels) e))
insert_goes n now b c k y (some x) v e = stays refl

-- Standings

not_both : (s : Standing) → HasHits s → NoHits s → ⊥
not_both unbound h q = h
not_both (guest n t) h q = absurd (omega arith)

not_unbound : (s : Standing) → HasHits s → s ≡ unbound → ⊥
not_unbound s h e = subst HasHits e h

not_before : (s t : Standing) → HasHits s → NoHits t → GoesBefore s t → ⊥
not_before unbound t h q w = h
not_before (guest m a) unbound h q w = w
not_before (guest m a) (guest n d) h q (inl l) = absurd (omega arith)
not_before (guest m a) (guest n d) h q (inr l) = let e = l.0 in absurd (omega arith)

no_hits_bound : (s : Standing) → NoHits s → IsGuest s
no_hits_bound unbound q = q
no_hits_bound (guest n t) q = tt

-- One insert

-- there is room, or a guest without hits
abbrev Soft : Book → Cache → Type 0
Soft b c = (c.table.free ≢ []) ⊎ ((j : ℕ) × NoHits (b j))

module _ (n now : ℕ) (b : Book) (c : Cache) (v : Inv n now b c) (k y : ℕ) where
  -- what is told after the insert
  abbrev told : Insertion → Book
  told a j = next j now (says (inserted k y a)) (b j)

  -- the entrant has no hits
  entrant : (s : Standing) → NoHits (cond (eqb k k) (guest 0 now) s)
  entrant s = subst NoHits (sym (if_same k k (guest 0 now) s refl)) refl

  -- a guest with hits is evicted, or stands as it did
  kept : (g : ℕ) (a : Insertion) (d : Cache) → Goes b c k a d → HasHits (b g) → Evicts (inserted k y a) g ⊎ HasHits (told a g)
  kept g _ _ (stays e) h = inr h
  kept g _ _ refuses h = inr h
  kept g _ _ (enters u) h = inr (subst HasHits (sym (if_other g k (guest 0 now) (b g) (λ e. not_unbound (b g) h (ap b e ∙ u)))) h)
  kept g _ _ (swaps x u q e) h = elim (ℕ_discrete g x.key) [
    | yes p ↦ inl (inl p)
    | no p ↦
        inr (subst HasHits (sym
        (if_other g k (guest 0 now) (cond (eqb g x.key) unbound (b g)) (λ r. not_unbound (b g) h (ap b r ∙ u))
        ∙ if_other g x.key unbound (b g) p)) h)
  ]

  -- after an eviction there is a guest without hits
  softens : (g : ℕ) (a : Insertion) (d : Cache) → Goes b c k a d → Evicts (inserted k y a) g → Soft (told a) d
  softens g _ _ (stays e) h = absurd h
  softens g _ _ refuses h = absurd h
  softens g _ _ (enters u) h = absurd h
  softens g _ _ (swaps x u q e) h = inr (k, entrant (cond (eqb k x.key) unbound (b k)))

  -- and it stays so
  soft_on : (a : Insertion) (d : Cache) → Goes b c k a d → Soft b c → Soft (told a) d
  soft_on _ _ (stays e) (inl f) = inl (λ q. f (sym e ∙ q))
  soft_on _ _ (stays e) (inr j) = inr j
  soft_on _ _ refuses s = s
  soft_on _ _ (enters u) s = inr (k, entrant (b k))
  soft_on _ _ (swaps x u q e) s = inr (k, entrant (cond (eqb k x.key) unbound (b k)))

  -- then no guest with hits goes
  spared : (g : ℕ) (a : Insertion) (d : Cache) → Goes b c k a d → Soft b c → HasHits (b g) → Evicts (inserted k y a) g → ⊥
  spared g _ _ (stays e) s h r = r
  spared g _ _ refuses s h r = r
  spared g _ _ (enters u) s h r = r
  spared g _ _ (swaps x u q e) (inl f) h r = f q
  spared g _ _ (swaps x u q e) (inr j) h (inr r) = r
  spared g _ _ (swaps x u q e) (inr j) h (inl r) =
      let hx : HasHits (b x.key) = subst (λ (m : ℕ). HasHits (b m)) r h in
      let w = (lowest_goes n now b c v x e).1 j.0 (no_hits_bound (b j.0) j.1) (λ p. not_both (b x.key) hx (subst (λ (m : ℕ). NoHits (b m)) p j.1)) in
      not_before (b x.key) (b j.0) hx j.1 w

  -- an insert evicts one guest at most
  one_goes : (i j : ℕ) (a : Insertion) → Evicts (inserted k y a) i → Evicts (inserted k y a) j → i ≡ j
  one_goes i j fresh p q = absurd p
  one_goes i j (fresh_out x) (inl p) (inl q) = p ∙ sym q
  one_goes i j (fresh_out x) (inl p) (inr q) = absurd q
  one_goes i j (fresh_out x) (inr p) q = absurd p
  one_goes i j (old w) p q = absurd p
  one_goes i j full p q = absurd p

-- A run of inserts

abbrev inserts_of : List (ℕ × ℕ) → List CacheCall
inserts_of [] = []
inserts_of (p ∷ ps) = Insert p.0 p.1 ∷ inserts_of ps

module _ (n now : ℕ) (b : Book) (c : Cache) (v : Inv n now b c) (k y : ℕ) (l : now < CALLS) where
  goes : Goes b c k (cache_insert k y c).0 (cache_insert k y c).1
  unfolding cache_insert
  goes = insert_goes n now b c k y (lookup k c.table) v refl

  inv_after : Inv n (now + 1) (told n now b c v k y (cache_insert k y c).0) (cache_insert k y c).1
  unfolding does
  inv_after = step n now b c v (Insert k y) l

soft_run : (n now : ℕ) (b : Book) (c : Cache) (ps : List (ℕ × ℕ)) → Inv n now b c → now + length (inserts_of ps) ≤ CALLS → Soft b c →
    (g : ℕ) → HasHits (b g) → EvictedIn (log c (inserts_of ps)) g → ⊥
unfolding does
soft_run n now b c [] v l s g h r = r
soft_run n now b c (p ∷ ps) v l s g h r =
    let k = p.0 in
    let y = p.1 in
    let a = cache_insert k y c in
    let go = goes n now b c v k y (omega arith) in
    let not : Evicts (inserted k y a.0) g → ⊥ = spared n now b c v k y g a.0 a.1 go s h in
    ⊎_elim not
    (λ r'.
    soft_run n (now + 1) (told n now b c v k y a.0) a.1 ps (inv_after n now b c v k y (omega arith)) (omega arith)
    (soft_on n now b c v k y a.0 a.1 go s) g
    (⊎_elim (λ e. absurd (not e)) (λ h'. h') (kept n now b c v k y g a.0 a.1 go h)) r')
    r

one_run : (n now : ℕ) (b : Book) (c : Cache) (ps : List (ℕ × ℕ)) → Inv n now b c → now + length (inserts_of ps) ≤ CALLS →
    (i j : ℕ) → HasHits (b i) → HasHits (b j) → EvictedIn (log c (inserts_of ps)) i → EvictedIn (log c (inserts_of ps)) j → i ≡ j
unfolding does
one_run n now b c [] v l i j h q r t = absurd r
one_run n now b c (p ∷ ps) v l i j h q r t =
    let k = p.0 in
    let y = p.1 in
    let a = cache_insert k y c in
    let go = goes n now b c v k y (omega arith) in
    let b' : Book = told n now b c v k y a.0 in
    let v' : Inv n (now + 1) b' a.1 = inv_after n now b c v k y (omega arith) in
    let l' : now + 1 + length (inserts_of ps) ≤ CALLS = omega arith in
    let stay : (m : ℕ) → HasHits (b m) → Evicts (inserted k y a.0) m ⊎ HasHits (b' m) = λ m z. kept n now b c v k y m a.0 a.1 go z in
    -- whoever goes later had no hits then
    let late : (m m' : ℕ) → Evicts (inserted k y a.0) m → HasHits (b m') → EvictedIn (log a.1 (inserts_of ps)) m' → m ≡ m'
    = λ m m' e z w.
    ⊎_elim (λ f. one_goes n now b c v k y m m' a.0 e f)
    (λ z'. absurd (soft_run n (now + 1) b' a.1 ps v' l' (softens n now b c v k y m a.0 a.1 go e) m' z' w)) (stay m' z) in
    ⊎_elim
    (λ e. ⊎_elim (λ f. one_goes n now b c v k y i j a.0 e f) (λ t'. late i j e q t') t)
    (λ r'.
    ⊎_elim (λ f. sym (late j i f h r'))
    (λ t'.
    ⊎_elim (λ e. late i j e q t')
    (λ z. ⊎_elim (λ f. sym (late j i f h r')) (λ z'. one_run n (now + 1) b' a.1 ps v' l' i j z z' r' t') (stay j q))
    (stay i h))
    t)
    r

-- The sentence

of_calls : (start : Cache) → EmptyCache start → (before : List CacheCall) (ps : List (ℕ × ℕ)) → length before + length (inserts_of ps) ≤ CALLS →
    Spares start.table.capacity (log start before) (log (after_all start before) (inserts_of ps))
of_calls start nobody before ps l =
    let n = start.table.capacity in
    let v = from_empty start nobody before (omega arith) in
    let c = after_all start before in
    let b : Book = λ k. standing k (log start before) in
    let l' : 0 + length before + length (inserts_of ps) ≤ CALLS = omega arith in
    record {
      at_most_one = one_run n (0 + length before) b c ps v l';
      none_if_room = λ room g h r.
          let count = size_and_free c.table v.formed.table in
          let told-count = guests_counted start nobody before in
          let cap = v.capacity in
          soft_run n (0 + length before) b c ps v l' (inl (λ f. let z = ap length f in absurd (omega arith))) g h r;
      none_if_idle = λ j q g h r. soft_run n (0 + length before) b c ps v l' (inr (j, q)) g h r;
    }

inserts_only : (c : Cache) (as' : List CacheCall) → OnlyInserts (log c as') → (ps : List (ℕ × ℕ)) × (as' ≡ inserts_of ps)
unfolding does
inserts_only c [] h = ([], refl)
inserts_only c (Insert k y ∷ as') h =
    let r = inserts_only (does (Insert k y) c).1 as' h.1 in ((k, y) ∷ r.0, ap {B = List CacheCall} (λ z. Insert k y ∷ z) r.1)
inserts_only c (Get k ∷ as') h = absurd h.0
inserts_only c (Peek k ∷ as') h = absurd h.0
inserts_only c (Remove k ∷ as') h = absurd h.0
inserts_only c (Reset k ∷ as') h = absurd h.0
inserts_only c (PeekLfu ∷ as') h = absurd h.0
inserts_only c (Evict ∷ as') h = absurd h.0
inserts_only c (Clear ∷ as') h = absurd h.0
inserts_only c (Len ∷ as') h = absurd h.0

pub second_sentence : SecondSentence
second_sentence start nobody pos as' l before inserts rest e h =
    let n = start.table.capacity in
    let r = part before (inserts ++ rest) start as' e in
    let f = part_length CALLS as' r.first r.second r.calls l in
    let c = after_all start r.first in
    let t = part inserts rest c r.second r.log_second in
    let g = length-append t.first t.second in
    let g' = ap length t.calls in
    let p = inserts_only c t.first (subst OnlyInserts (sym t.log_first) h) in
    let q = ap length p.1 in
    let s = of_calls start nobody r.first p.0 (omega arith) in
    subst (λ z. Spares n z inserts) r.log_first
    (subst (λ z. Spares n (log start r.first) z) t.log_first
    (subst (λ z. Spares n (log start r.first) (log c z)) (sym p.1) s))
