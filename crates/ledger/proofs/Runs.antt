-- What holds after any number of calls: the cache is well formed and agrees with what its history tells (Told.antt). `step` carries
-- it over one call; below 2^64 - 2 calls no frequency reaches the ceiling, so every hit raises one. `run` carries it over a sequence.
use mathlib.Core.Path.{◌≡◌, refl, sym, ap, ◌∙◌, subst, fun_ext}
use mathlib.Core.Bool.{Bool, true, false, cond}
use mathlib.Core.Option.{Option, none, some}
use mathlib.Core.List.{List, [], ◌∷◌}
use Prim.Native.Nat.{ℕ, suc, ◌+◌, ◌≤◌, ◌<◌}
use native.Mathlib.Omega.{arith}
use lib.Dec.{eqb}
use lib.ListN.{length, set}
use Rattle.numbers.specs.Frequency.{FIRST, CEILING, raised}
use Rattle.lists.specs.Lists.{In}
use Rattle.lists.proofs.Tests.{if_eq, if_same, if_other, if_less}
use Rattle.lists.proofs.Members.{all_in}
use Rattle.ledger.specs.Ledger.{Entry, Item, item, items, lookup, if_found, lowest, move, keyed}
use Rattle.ledger.specs.Cache.{Cache, CacheFormed, new_cache, Lookup, miss, Least, least, nothing, bind, unbind, moved, restarted, value_of, insert_full, insert_new, insert_at, cache_insert, cache_get, cache_peek, cache_remove, cache_reset, cache_peek_lfu, cache_evict, cache_clear}
use Rattle.ledger.specs.History.{CacheCall, Insert, Get, Peek, Remove, Reset, PeekLfu, Evict, Clear, Len, Event, inserted, got, peeked, removed, reset, peeked_lfu, evicted, does, log, after_all, says, Standing, unbound, guest, struck, next, follow, standing}
use Rattle.ledger.specs.Demand3.{EmptyCache, CALLS}
use Rattle.ledger.proofs.Items.{found_in, found_none, place, cut, items_unlink, items_link, keyed_cut_same}
use Rattle.ledger.proofs.Rising.{lowest_in}
use Rattle.ledger.proofs.Changes.{fresh_after, items_move}
use Rattle.ledger.proofs.CacheKept.{new_cache_formed, all_formed, bind_formed, unbind_formed, moved_formed, restarted_formed, stored_formed}
use Rattle.ledger.proofs.Told.{Book, write, Knows, Told, told_cut, told_later, told_place}

-- after `now` calls, when the history says b of each key, in a cache of capacity n
pub record Inv (n now : ℕ) (b : Book) (c : Cache) : Type 0 where
  pub formed : CacheFormed c
  pub told : Told now b (items c.table.levels)
  pub capacity : c.table.capacity ≡ n

inv_same : (n now : ℕ) (b d : Book) (c : Cache) → ((k : ℕ) → b k ≡ d k) → Inv n now b c → Inv n now d c
inv_same n now b d c e v = subst (λ z. Inv n now z c) (fun_ext e) v

-- an empty cache agrees with a history that tells of no guest
pub inv_empty : (c : Cache) (now : ℕ) → EmptyCache c → Inv c.table.capacity now (λ k. unbound) c
inv_empty c now e = record {
  formed = e.formed;
  told = subst (λ ls. Told now (λ k. unbound) (items ls)) (sym e.nobody) (record { each = tt; others = λ k h. refl; ordered = tt });
  capacity = refl;
}

pub new_empty : (n : ℕ) → EmptyCache (new_cache n)
new_empty n = record { formed = new_cache_formed n; nobody = refl }

write_twice : (b : Book) (k : ℕ) (s t : Standing) (j : ℕ) → write (write b k s) k t j ≡ write b k t j
write_twice b k s t j = go (eqb j k)
  where
    go : (o : Bool) → cond o t (cond o s (b j)) ≡ cond o t (b j)
    go true = refl
    go false = refl

-- a hit as it is written, and as it is told
hit_book : (b : Book) (now x k : ℕ) → x ≡ k → (j : ℕ) → write b x (struck now (b x)) j ≡ cond (eqb j k) (struck now (b j)) (b j)
hit_book b now x k e j =
    ap (λ (m : ℕ). write b m (struck now (b m)) j) e
    ∙ if_eq (λ z. cond (eqb j k) (struck now (b k)) (b j) ≡ z) j k
    (λ s. if_same j k (struck now (b k)) (b j) s ∙ ap (λ (m : ℕ). struck now (b m)) (sym s))
    (λ d. if_other j k (struck now (b k)) (b j) d)

-- The changes

module _ (n now : ℕ) (b : Book) (c : Cache) (v : Inv n now b c) where
  inv_later : Inv n (now + 1) b c
  inv_later = record { formed = v.formed; told = told_later now b (items c.table.levels) v.told; capacity = v.capacity }

  inv_bind : (k x s : ℕ) (rest : List ℕ) → keyed k (items c.table.levels) ≡ 0 → c.table.free ≡ s ∷ rest →
      Inv n (now + 1) (write b k (guest 0 now)) (bind k x s rest c)
  inv_bind k x s rest f e =
      let d : Entry = record { key = k; slot = s; epoch = c.table.epoch } in
      record {
        formed = bind_formed c v.formed k x s rest f e;
        told =
            rw (items_link 1 d 0 c.table.levels v.formed.table.rising)
            (told_place now b (items c.table.levels) (item 1 d) 0 v.told f refl (omega arith));
        capacity = v.capacity;
      }

  inv_unbind : (x : Item) → In x (items c.table.levels) → Inv n now (write b x.key unbound) (unbind x c)
  inv_unbind x i = record {
    formed = unbind_formed c v.formed x i;
    told = rw (items_unlink x.key c.table.levels) (told_cut now b (items c.table.levels) x.key v.told);
    capacity = v.capacity;
  }

  inv_stored : (x : Item) (y : ℕ) → In x (items c.table.levels) → Inv n (now + 1) b (record { table = c.table; values = set c.values x.slot y })
  inv_stored x y i =
      record { formed = stored_formed c v.formed x y i; told = told_later now b (items c.table.levels) v.told; capacity = v.capacity }

  -- a key cut out and placed again at the head of the list of frequency f, which is that of n hits
  told_again : (x : Item) (f n : ℕ) → f ≡ n + 1 → n ≤ now → Told (now + 1) (write b x.key (guest n now)) (items (move x f c.table).levels)
  told_again x f n e l =
      let d : Entry = record { key = x.key; slot = x.slot; epoch = c.table.epoch } in
      let xs = items c.table.levels in
      let gone = told_cut now b xs x.key v.told in
      let placed = told_place now (write b x.key unbound) (cut x.key xs) (item f d) n gone (keyed_cut_same x.key xs) e l in
      rw (items_move x f c.table v.formed.table.rising)
      (subst (λ z. Told (now + 1) z (place (item f d) (cut x.key xs))) (fun_ext (write_twice b x.key unbound (guest n now))) placed)

  inv_restart : (x : Item) → In x (items c.table.levels) → Inv n (now + 1) (write b x.key (guest 0 now)) (restarted x c)
  inv_restart x i =
      record { formed = restarted_formed c v.formed x i; told = told_again x FIRST 0 refl (omega arith); capacity = v.capacity }

  pub knows : (x : Item) → In x (items c.table.levels) → Knows now x (b x.key)
  knows x i = all_in (λ y. Knows now y (b y.key)) (items c.table.levels) x v.told.each i

  -- a hit: below the ceiling, since there were no more hits than calls
  hit_at_lem : (x : Item) (s : Standing) → In x (items c.table.levels) → b x.key ≡ s → Knows now x s → now < CALLS →
      Inv n (now + 1) (write b x.key (struck now s)) (moved x (raised CEILING x.frequency) c)
  hit_at_lem x unbound i e h l = absurd h
  hit_at_lem x (guest g t) i e h l =
      let f = raised CEILING x.frequency in
      let h0 : x.frequency ≡ g + 1 = h.0 in
      let h2 : g < now = h.2 in
      let lt : x.frequency < CEILING = omega arith in
      let u : f ≡ x.frequency + 1 = if_less x.frequency CEILING (x.frequency + 1) x.frequency lt in
      record { formed = moved_formed c v.formed x i; told = told_again x f (g + 1) (omega arith) (omega arith); capacity = v.capacity }

-- The calls, one by one

module _ (n now : ℕ) (b : Book) (c : Cache) (v : Inv n now b c) where
  full_step : (k y : ℕ) (o : Option Item) → lowest c.table.levels ≡ o → c.table.free ≡ [] → keyed k (items c.table.levels) ≡ 0 →
      Inv n (now + 1) (λ j. next j now (says (inserted k y (insert_full o k y c).0)) (b j)) (insert_full o k y c).1
  full_step k y none e q f = inv_later n now b c v
  full_step k y (some x) e q f =
      inv_bind n now (write b x.key unbound) (unbind x c) (inv_unbind n now b c v x (lowest_in c.table.levels x e)) k y x.slot []
      (fresh_after k x c.table f) (rw q)

  new_step : (k y : ℕ) (free : List ℕ) → c.table.free ≡ free → keyed k (items c.table.levels) ≡ 0 →
      Inv n (now + 1) (λ j. next j now (says (inserted k y (insert_new free k y c).0)) (b j)) (insert_new free k y c).1
  new_step k y [] q f = full_step k y (lowest c.table.levels) refl q f
  new_step k y (s ∷ rest) q f = inv_bind n now b c v k y s rest f q

  insert_step : (k y : ℕ) (o : Option Item) → lookup k c.table ≡ o →
      Inv n (now + 1) (λ j. next j now (says (inserted k y (insert_at o k y c).0)) (b j)) (insert_at o k y c).1
  insert_step k y none e = new_step k y c.table.free refl (found_none k (items c.table.levels) e)
  insert_step k y (some x) e = inv_stored n now b c v x y (found_in k (items c.table.levels) x e).0

  -- a call that needs its key bound: a miss says nothing
  asked_step : (k : ℕ) (told : Lookup → Event) (f : Item → Lookup × Cache) → says (told miss) ≡ [] →
      ((x : Item) → lookup k c.table ≡ some x → Inv n (now + 1) (λ j. next j now (says (told (f x).0)) (b j)) (f x).1) →
      (o : Option Item) → lookup k c.table ≡ o →
      let r = if_found {A = Lookup × Cache} o (miss, c) f in Inv n (now + 1) (λ j. next j now (says (told r.0)) (b j)) r.1
  asked_step k told f z g none e = rw z (inv_later n now b c v)
  asked_step k told f z g (some x) e = g x e

  get_step : (k : ℕ) (x : Item) → lookup k c.table ≡ some x → now < CALLS →
      Inv n (now + 1) (λ j. cond (eqb j k) (struck now (b j)) (b j)) (moved x (raised CEILING x.frequency) c)
  get_step k x e l =
      let q = found_in k (items c.table.levels) x e in
      inv_same n (now + 1) _ _ _ (hit_book b now x.key k q.1) (hit_at_lem n now b c v x (b x.key) q.0 refl (knows n now b c v x q.0) l)

  remove_step : (k : ℕ) (x : Item) → lookup k c.table ≡ some x → Inv n (now + 1) (write b k unbound) (unbind x c)
  remove_step k x e =
      let q = found_in k (items c.table.levels) x e in
      inv_later n now _ (unbind x c)
      (inv_same n now _ _ _ (λ j. ap (λ (m : ℕ). write b m unbound j) q.1) (inv_unbind n now b c v x q.0))

  reset_step : (k : ℕ) (x : Item) → lookup k c.table ≡ some x →
      Inv n (now + 1) (write (write b k unbound) k (guest 0 now)) (restarted x c)
  reset_step k x e =
      let q = found_in k (items c.table.levels) x e in
      inv_same n (now + 1) _ _ _ (λ j. ap (λ (m : ℕ). write b m (guest 0 now) j) q.1 ∙ sym (write_twice b k unbound (guest 0 now) j))
      (inv_restart n now b c v x q.0)

  peek_lfu_step : (o : Option Item) →
      let r = if_found {A = Least × Cache} o (nothing, c) (λ x. (least x.key (value_of x c), c)) in
      Inv n (now + 1) (λ j. next j now (says (peeked_lfu r.0)) (b j)) r.1
  peek_lfu_step none = inv_later n now b c v
  peek_lfu_step (some x) = inv_later n now b c v

  evict_step : (o : Option Item) → lowest c.table.levels ≡ o →
      let r = if_found {A = Least × Cache} o (nothing, c) (λ x. (least x.key (value_of x c), unbind x c)) in
      Inv n (now + 1) (λ j. next j now (says (evicted r.0)) (b j)) r.1
  evict_step none e = inv_later n now b c v
  evict_step (some x) e = inv_later n now _ (unbind x c) (inv_unbind n now b c v x (lowest_in c.table.levels x e))

  pub step : (a : CacheCall) → now < CALLS → Inv n (now + 1) (λ j. next j now (says (does a c).0) (b j)) (does a c).1
  unfolding does cache_insert cache_get cache_peek cache_remove cache_reset cache_peek_lfu cache_evict cache_clear
  step (Insert k y) l = insert_step k y (lookup k c.table) refl
  step (Get k) l = asked_step k (got k) _ refl (λ x e. get_step k x e l) (lookup k c.table) refl
  step (Peek k) l = asked_step k (peeked k) _ refl (λ x e. inv_later n now b c v) (lookup k c.table) refl
  step (Remove k) l = asked_step k (removed k) _ refl (λ x e. remove_step k x e) (lookup k c.table) refl
  step (Reset k) l = asked_step k (reset k) _ refl (λ x e. reset_step k x e) (lookup k c.table) refl
  step PeekLfu l = peek_lfu_step (lowest c.table.levels)
  step Evict l = evict_step (lowest c.table.levels) refl
  step Clear l = subst (λ (m : ℕ). Inv n (now + 1) (λ j. unbound) (new_cache m)) (sym v.capacity) (inv_empty (new_cache n) (now + 1) (new_empty n))
  step Len l = inv_later n now b c v

-- Any sequence

run : (n now : ℕ) (b : Book) (c : Cache) (as' : List CacheCall) → Inv n now b c → now + length as' ≤ CALLS →
    Inv n (now + length as') (λ k. follow k now (b k) (log c as')) (after_all c as')
run n now b c [] v l = subst (λ (m : ℕ). Inv n m b c) (omega arith) v
run n now b c (a ∷ as') v l =
    let e : now + 1 + length as' ≡ now + suc (length as') = omega arith in
    subst (λ (m : ℕ). Inv n m (λ k. follow k (now + 1) (next k now (says (does a c).0) (b k)) (log (does a c).1 as')) (after_all (does a c).1 as')) e
    (run n (now + 1) (λ k. next k now (says (does a c).0) (b k)) (does a c).1 as' (step n now b c v a (omega arith)) (omega arith))

pub from_empty : (c : Cache) → EmptyCache c → (as' : List CacheCall) → length as' ≤ CALLS →
    Inv c.table.capacity (0 + length as') (λ k. standing k (log c as')) (after_all c as')
from_empty c e as' l = run c.table.capacity 0 (λ k. unbound) c as' (inv_empty c 0 e) (omega arith)

-- A cache is empty again after a clear, and whenever its last guest has left: demand 3 then starts anew.
pub clear_empties : (c : Cache) → EmptyCache (cache_clear c)
unfolding cache_clear
clear_empties c = new_empty c.table.capacity

pub empty_again : (c : Cache) → EmptyCache c → (as' : List CacheCall) → (after_all c as').table.levels ≡ [] → EmptyCache (after_all c as')
empty_again c e as' q = record { formed = all_formed c as' e.formed; nobody = q }
