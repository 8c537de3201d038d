-- Demand 3, first sentence: whoever a call evicts was the tail of the lowest list, and by what holds after any number of calls
-- (Runs.antt) that guest goes before every other (Told.antt).
use mathlib.Core.Path.{◌≡◌, refl, sym, ◌∙◌, subst}
use mathlib.Core.Logic.{◌⊎◌, inl, inr, ⊎_elim}
use mathlib.Core.Option.{Option, none, some}
use mathlib.Core.List.{List, [], ◌∷◌}
use Prim.Native.Nat.{ℕ, ◌+◌, ◌≤◌, ◌<◌}
use native.Mathlib.Omega.{arith}
use native.Mathlib.Decide.{ℕ_discrete}
use lib.ListN.{length}
use Rattle.ledger.specs.Ledger.{Item, items, lookup, if_found, lowest, keyed}
use Rattle.ledger.specs.Cache.{Cache, Lookup, hit, miss, Least, least, nothing, value_of, unbind, insert_full, insert_new, insert_at, cache_insert, cache_get, cache_remove, cache_reset, cache_evict}
use Rattle.ledger.specs.History.{CacheCall, Insert, Get, Peek, Remove, Reset, PeekLfu, Evict, Clear, Len, Event, inserted, got, removed, reset, evicted, does, log, after_all, Standing, unbound, guest, standing, Evicts}
use Rattle.ledger.specs.Demand3.{EmptyCache, CALLS, GoesBefore, LeastGoes, FirstSentence, IsGuest}
use Rattle.ledger.proofs.Items.{pick}
use Rattle.ledger.proofs.Rising.{lowest_in}
use Rattle.ledger.proofs.Told.{Book, last, Knows, Lower, lowest_first}
use Rattle.ledger.proofs.Runs.{Inv, knows, from_empty}
use Rattle.ledger.proofs.Parts.{part, part_length}

-- The lowest goes first

knows_bound : (now : ℕ) (x : Item) (s : Standing) → Knows now x s → IsGuest s
knows_bound now x unbound h = h
knows_bound now x (guest n t) h = tt

-- an order of frequencies is one of hits
goes_by : (now : ℕ) (x y : Item) (s t : Standing) → Knows now x s → Knows now y t → (x.frequency < y.frequency) ⊎ ((x.frequency ≡ y.frequency) × (last s < last t)) →
    GoesBefore s t
goes_by now x y unbound t h i l = absurd h
goes_by now x y (guest m a) unbound h i l = absurd i
goes_by now x y (guest m a) (guest n b) h i (inl l) = let p = h.0 in let q = i.0 in inl (omega arith)
goes_by now x y (guest m a) (guest n b) h i (inr l) = let p = h.0 in let q = i.0 in let r = l.0 in inr (omega arith, l.1)

module _ (n now : ℕ) (b : Book) (c : Cache) (v : Inv n now b c) where
  bound_keyed : (k : ℕ) → IsGuest (b k) → 1 ≤ keyed k (items c.table.levels)
  bound_keyed k h = elim (ℕ_discrete (keyed k (items c.table.levels)) 0)
      [ yes q ↦ absurd (subst IsGuest (v.told.others k q) h) | no d ↦ omega arith ]

  pub lowest_goes : (x : Item) → lowest c.table.levels ≡ some x →
      IsGuest (b x.key) × ((k : ℕ) → IsGuest (b k) → (k ≡ x.key → ⊥) → GoesBefore (b x.key) (b k))
  lowest_goes x e =
      let xs = items c.table.levels in
      let kx = knows n now b c v x (lowest_in c.table.levels x e) in
      let low = lowest_first b 0 c.table.levels x v.formed.table.rising e v.told.ordered in (
        knows_bound now x (b x.key) kx,
        λ k h d.
            let r = pick (λ y. (y.key ≡ x.key) ⊎ Lower b x y) k xs low (bound_keyed k h) in
            let ky = knows n now b c v r.0 r.1 in
            subst (λ (m : ℕ). GoesBefore (b x.key) (b m)) r.2
            (⊎_elim (λ q. absurd (d (sym r.2 ∙ q))) (λ q. goes_by now x r.0 (b x.key) (b r.0.key) kx ky q) r.3),
      )

-- Whoever a call evicts is the tail of the lowest list

abbrev IsLowest : Cache → ℕ → Type 0
IsLowest c v = (x : Item) × (lowest c.table.levels ≡ some x) × (v ≡ x.key)

one_evicted : {A : Type 0} (v k : ℕ) → (v ≡ k → A) → (v ≡ k) ⊎ ⊥ → A
one_evicted v k f (inl e) = f e
one_evicted v k f (inr z) = absurd z

full_evicts : (k y : ℕ) (o : Option Item) (c : Cache) (v : ℕ) → lowest c.table.levels ≡ o → Evicts (inserted k y (insert_full o k y c).0) v → IsLowest c v
full_evicts k y none c v e h = absurd h
full_evicts k y (some x) c v e h = one_evicted v x.key (λ q. (x, e, q)) h

new_evicts : (k y : ℕ) (free : List ℕ) (c : Cache) (v : ℕ) → Evicts (inserted k y (insert_new free k y c).0) v → IsLowest c v
new_evicts k y [] c v h = full_evicts k y (lowest c.table.levels) c v refl h
new_evicts k y (s ∷ rest) c v h = absurd h

insert_evicts : (k y : ℕ) (o : Option Item) (c : Cache) (v : ℕ) → Evicts (inserted k y (insert_at o k y c).0) v → IsLowest c v
insert_evicts k y none c v h = new_evicts k y c.table.free c v h
insert_evicts k y (some x) c v h = absurd h

evict_evicts : (o : Option Item) (c : Cache) (v : ℕ) → lowest c.table.levels ≡ o →
    Evicts (evicted (if_found {A = Least × Cache} o (nothing, c) (λ x. (least x.key (value_of x c), unbind x c))).0) v → IsLowest c v
evict_evicts none c v e h = absurd h
evict_evicts (some x) c v e h = one_evicted v x.key (λ q. (x, e, q)) h

-- a call that evicts nobody, hit or missed
nobody : (told : Lookup → Event) (a : Lookup) (v : ℕ) → ((w : ℕ) → Evicts (told (hit w)) v → ⊥) → (Evicts (told miss) v → ⊥) → Evicts (told a) v → ⊥
nobody told (hit w) v f g h = f w h
nobody told miss v f g h = g h

evicts_lowest : (a : CacheCall) (c : Cache) (v : ℕ) → Evicts (does a c).0 v → IsLowest c v
unfolding does cache_insert cache_evict
evicts_lowest (Insert k y) c v h = insert_evicts k y (lookup k c.table) c v h
evicts_lowest (Get k) c v h = absurd (nobody (got k) (cache_get k c).0 v (λ w z. z) (λ z. z) h)
evicts_lowest (Peek k) c v h = absurd h
evicts_lowest (Remove k) c v h = absurd (nobody (removed k) (cache_remove k c).0 v (λ w z. z) (λ z. z) h)
evicts_lowest (Reset k) c v h = absurd (nobody (reset k) (cache_reset k c).0 v (λ w z. z) (λ z. z) h)
evicts_lowest PeekLfu c v h = absurd h
evicts_lowest Evict c v h = evict_evicts (lowest c.table.levels) c v refl h
evicts_lowest Clear c v h = absurd h
evicts_lowest Len c v h = absurd h

-- The sentence

of_calls : (start : Cache) → EmptyCache start → (before : List CacheCall) (call : CacheCall) → length before ≤ CALLS → (v : ℕ) →
    Evicts (does call (after_all start before)).0 v → LeastGoes (log start before) v
of_calls start nobody before call l v h =
    let i = from_empty start nobody before l in
    let c = after_all start before in
    let b : Book = λ k. standing k (log start before) in
    let x = evicts_lowest call c v h in
    let w = lowest_goes start.table.capacity (0 + length before) b c i x.0 x.1 in
    record {
      was_bound = subst (λ (m : ℕ). IsGuest (b m)) (sym x.2) w.0;
      first = λ k q d. subst (λ (m : ℕ). GoesBefore (b m) (b k)) (sym x.2) (w.1 k q (λ e. d (e ∙ sym x.2)));
    }

pub first_sentence : FirstSentence
first_sentence start nobody pos as' l before now rest e v h =
    let r = part before (now ∷ rest) start as' e in
    subst (λ z. LeastGoes z v) r.log_first
    (go r.first r.second (part_length CALLS as' r.first r.second r.calls l) r.log_second)
  where
    go : (bs cs : List CacheCall) → length bs + length cs ≤ CALLS → log (after_all start bs) cs ≡ now ∷ rest → LeastGoes (log start bs) v
    go bs [] f q = let z : ◌≡◌ {A = ℕ} 0 1 = cc in absurd (omega arith)
    go bs (a ∷ cs) f q =
        let p : now ≡ (does a (after_all start bs)).0 = cc in
        of_calls start nobody bs a (omega arith) v (subst (λ z. Evicts z v) p h)
