-- What every call of the cache keeps, as Kept.antt for the buckets: `does_keep` goes once through all single calls, and
-- well-formedness and the capacity are two relations that its changes keep.
use mathlib.Core.Path.{◌≡◌, refl, sym, ap, ◌∙◌}
use mathlib.Core.Logic.{◌≢◌}
use mathlib.Core.Option.{Option, none, some}
use mathlib.Core.List.{List, [], ◌∷◌}
use Prim.Native.Nat.{ℕ, zero, suc, ◌+◌}
use native.Mathlib.Omega.{arith}
use lib.ListN.{get_or, set, replicate, length-set, length-replicate}
use lib.Seq.{get_or-set_same, get_or-set_other}
use Rattle.numbers.specs.Frequency.{CEILING, raised}
use Rattle.lists.specs.Lists.{In, one, times}
use Rattle.lists.proofs.Tests.{if_eq, one_other}
use Rattle.lists.proofs.Members.{sum_append}
use Rattle.ledger.specs.Ledger.{Item, items, lookup, if_found, lowest, keyed}
use Rattle.ledger.specs.Cache.{Cache, new_cache, CacheFormed, Lookup, miss, Least, bind, unbind, moved, restarted, insert_full, insert_new, insert_at, cache_insert, cache_get, cache_peek, cache_remove, cache_reset, cache_peek_lfu, cache_evict, cache_clear}
use Rattle.ledger.specs.History.{CacheCall, Insert, Get, Peek, Remove, Reset, PeekLfu, Evict, Clear, Len, does, after_all}
use Rattle.ledger.proofs.Items.{found_in, found_none}
use Rattle.ledger.proofs.Rising.{lowest_in}
use Rattle.ledger.proofs.Slots.{bound_slot, free_slot}
use Rattle.ledger.proofs.Changes.{new_formed, put_formed, release_formed, move_formed, restart_formed, raised_fits, fresh_after}
use Rattle.ledger.proofs.Kept.{by_found}

-- The changes keep a cache well formed

zero_values : (n t : ℕ) → ◌≡◌ {A = ℕ} (get_or (replicate n 0) t 0) 0
zero_values zero t = refl
zero_values (suc n) zero = refl
zero_values (suc n) (suc t) = zero_values n t

pub new_cache_formed : (n : ℕ) → CacheFormed (new_cache n)
new_cache_formed n = record { table = new_formed n; fits = length-replicate n 0; zeros = λ t z. zero_values n t }

module _ (c : Cache) (w : CacheFormed c) where
  pub bind_formed : (k v s : ℕ) (rest : List ℕ) → keyed k (items c.table.levels) ≡ 0 → c.table.free ≡ s ∷ rest → CacheFormed (bind k v s rest c)
  bind_formed k v s rest h e = record {
    table = put_formed c.table w.table k s rest h e;
    fits = length-set c.values s v ∙ w.fits;
    zeros = λ t z.
        let a = ap (times t) e in
        let b = (free_slot c.table w.table s rest e).1 in
        let d : t ≢ s = λ q. let y = ap (λ (m : ℕ). times m rest) q in absurd (omega arith) in
        get_or-set_other c.values s t v 0 d ∙ w.zeros t (omega (arith, one_other s t (λ q. d (sym q))));
  }

  pub unbind_formed : (x : Item) → In x (items c.table.levels) → CacheFormed (unbind x c)
  unbind_formed x i = record {
    table = release_formed c.table w.table x i;
    fits = length-set c.values x.slot 0 ∙ w.fits;
    zeros = λ t e.
        let more : one x.slot t + times t c.table.free ≡ 1 = omega (arith, sum_append (λ s. one s t) c.table.free (x.slot ∷ [])) in
        if_eq (λ z. z + times t c.table.free ≡ 1 → get_or (set c.values x.slot 0) t 0 ≡ 0) x.slot t
        (λ q h.
        let b = (bound_slot c.table w.table x i).0 in
        let f = w.fits in
        rw (← q) (get_or-set_same c.values x.slot 0 0 (omega arith)))
        (λ d h. get_or-set_other c.values x.slot t 0 0 (λ q. d (sym q)) ∙ w.zeros t (omega arith)) more;
  }

  pub moved_formed : (x : Item) → In x (items c.table.levels) → CacheFormed (moved x (raised CEILING x.frequency) c)
  moved_formed x i =
      let r = raised_fits c.table w.table CEILING x i (omega arith) in
      record { table = move_formed c.table w.table x (raised CEILING x.frequency) i r.0 r.1; fits = w.fits; zeros = w.zeros }

  pub restarted_formed : (x : Item) → In x (items c.table.levels) → CacheFormed (restarted x c)
  restarted_formed x i = record { table = restart_formed c.table w.table x i; fits = w.fits; zeros = w.zeros }

  pub stored_formed : (x : Item) (v : ℕ) → In x (items c.table.levels) → CacheFormed (record { table = c.table; values = set c.values x.slot v })
  stored_formed x v i = record {
    table = w.table;
    fits = length-set c.values x.slot v ∙ w.fits;
    zeros = λ t z.
        let b = (bound_slot c.table w.table x i).1 in
        get_or-set_other c.values x.slot t v 0 (λ q. let y = ap (λ (m : ℕ). times m c.table.free) q in absurd (omega arith)) ∙ w.zeros t z;
  }

-- Every call keeps what its changes keep

-- R holds of the changes that calls are made of
pub record CacheChanges (R : Cache → Cache → Type 0) : Type 0 where
  pub stays : (c : Cache) → R c c
  pub goes_on : (c d e : Cache) → R c d → R d e → R c e
  pub binds : (c : Cache) (k v s : ℕ) (rest : List ℕ) → keyed k (items c.table.levels) ≡ 0 → c.table.free ≡ s ∷ rest → R c (bind k v s rest c)
  pub unbinds : (c : Cache) (x : Item) → In x (items c.table.levels) → R c (unbind x c)
  pub moves : (c : Cache) (x : Item) → In x (items c.table.levels) → R c (moved x (raised CEILING x.frequency) c)
  pub restarts : (c : Cache) (x : Item) → In x (items c.table.levels) → R c (restarted x c)
  pub stores : (c : Cache) (x : Item) (v : ℕ) → In x (items c.table.levels) → R c (record { table = c.table; values = set c.values x.slot v })
  pub empties : (c : Cache) → R c (new_cache c.table.capacity)

module _ (R : Cache → Cache → Type 0) (h : CacheChanges R) where
  module _ (c : Cache) where
    full_keeps : (k v : ℕ) (o : Option Item) → lowest c.table.levels ≡ o → c.table.free ≡ [] → keyed k (items c.table.levels) ≡ 0 → R c (insert_full o k v c).1
    full_keeps k v none e q f = h.stays c
    full_keeps k v (some x) e q f =
        h.goes_on c (unbind x c) _ (h.unbinds c x (lowest_in c.table.levels x e))
        (h.binds (unbind x c) k v x.slot [] (fresh_after k x c.table f) (rw q))

    new_keeps : (k v : ℕ) (free : List ℕ) → c.table.free ≡ free → keyed k (items c.table.levels) ≡ 0 → R c (insert_new free k v c).1
    new_keeps k v [] q f = full_keeps k v (lowest c.table.levels) refl q f
    new_keeps k v (s ∷ rest) q f = h.binds c k v s rest f q

    at_keeps : (k v : ℕ) (o : Option Item) → lookup k c.table ≡ o → R c (insert_at o k v c).1
    at_keeps k v none e = new_keeps k v c.table.free refl (found_none k (items c.table.levels) e)
    at_keeps k v (some x) e = h.stores c x v (found_in k (items c.table.levels) x e).0

    insert_keeps : (k v : ℕ) → R c (cache_insert k v c).1
    unfolding cache_insert
    insert_keeps k v = at_keeps k v (lookup k c.table) refl

    -- a call that needs its key bound
    asked_keeps : (k : ℕ) (f : Item → Lookup × Cache) → ((x : Item) → In x (items c.table.levels) → R c (f x).1) →
        (o : Option Item) → lookup k c.table ≡ o → R c (if_found {A = Lookup × Cache} o (miss, c) f).1
    asked_keeps k f g none e = h.stays c
    asked_keeps k f g (some x) e = g x (found_in k (items c.table.levels) x e).0

    get_keeps : (k : ℕ) → R c (cache_get k c).1
    unfolding cache_get
    get_keeps k = asked_keeps k _ (λ x i. h.moves c x i) (lookup k c.table) refl

    remove_keeps : (k : ℕ) → R c (cache_remove k c).1
    unfolding cache_remove
    remove_keeps k = asked_keeps k _ (λ x i. h.unbinds c x i) (lookup k c.table) refl

    reset_keeps : (k : ℕ) → R c (cache_reset k c).1
    unfolding cache_reset
    reset_keeps k = asked_keeps k _ (λ x i. h.restarts c x i) (lookup k c.table) refl

    pub does_keep : (a : CacheCall) → R c (does a c).1
    unfolding does cache_peek cache_peek_lfu cache_evict cache_clear
    does_keep (Insert k v) = insert_keeps k v
    does_keep (Get k) = get_keeps k
    does_keep (Peek k) = asked_keeps k _ (λ x i. h.stays c) (lookup k c.table) refl
    does_keep (Remove k) = remove_keeps k
    does_keep (Reset k) = reset_keeps k
    does_keep PeekLfu = by_found (λ (o : Least × Cache). R c o.1) (lowest c.table.levels) _ _ (λ e. h.stays c) (λ x e. h.stays c)
    does_keep Evict =
        by_found (λ (o : Least × Cache). R c o.1) (lowest c.table.levels) _ _ (λ e. h.stays c) (λ x e. h.unbinds c x (lowest_in c.table.levels x e))
    does_keep Clear = h.empties c
    does_keep Len = h.stays c

  pub run_keeps : (c : Cache) (as' : List CacheCall) → R c (after_all c as')
  run_keeps c [] = h.stays c
  run_keeps c (a ∷ as') = h.goes_on c (does a c).1 _ (does_keep c a) (run_keeps (does a c).1 as')

-- the two relations

formed_changes : CacheChanges (λ c d. CacheFormed c → CacheFormed d)
formed_changes = record {
  stays = λ c w. w;
  goes_on = λ c d e f g w. g (f w);
  binds = λ c k v s rest f q w. bind_formed c w k v s rest f q;
  unbinds = λ c x i w. unbind_formed c w x i;
  moves = λ c x i w. moved_formed c w x i;
  restarts = λ c x i w. restarted_formed c w x i;
  stores = λ c x v i w. stored_formed c w x v i;
  empties = λ c w. new_cache_formed c.table.capacity;
}

capacity_changes : CacheChanges (λ c d. d.table.capacity ≡ c.table.capacity)
capacity_changes = record {
  stays = λ c. refl;
  goes_on = λ c d e f g. g ∙ f;
  binds = λ c k v s rest f q. refl;
  unbinds = λ c x i. refl;
  moves = λ c x i. refl;
  restarts = λ c x i. refl;
  stores = λ c x v i. refl;
  empties = λ c. refl;
}

pub does_formed : (c : Cache) (a : CacheCall) → CacheFormed c → CacheFormed (does a c).1
does_formed = does_keep (λ c d. CacheFormed c → CacheFormed d) formed_changes

pub does_capacity : (c : Cache) (a : CacheCall) → (does a c).1.table.capacity ≡ c.table.capacity
does_capacity = does_keep (λ c d. d.table.capacity ≡ c.table.capacity) capacity_changes

pub run_formed : (c : Cache) (as' : List CacheCall) → CacheFormed c → CacheFormed (after_all c as')
run_formed = run_keeps (λ c d. CacheFormed c → CacheFormed d) formed_changes

pub run_capacity : (c : Cache) (as' : List CacheCall) → (after_all c as').table.capacity ≡ c.table.capacity
run_capacity = run_keeps (λ c d. d.table.capacity ≡ c.table.capacity) capacity_changes

pub all_formed : (c : Cache) (as' : List CacheCall) → CacheFormed c → CacheFormed (after_all c as')
all_formed c [] w = w
all_formed c (a ∷ as') w = all_formed (does a c).1 as' (does_formed c a w)
