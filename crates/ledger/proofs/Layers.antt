-- The cache's calls are the buckets' calls: a get touches, a remove removes, an evict pops, an insert of an unbound key inserts,
-- after a pop where no slot is free, whose slot it takes; and a reset ends as a remove and an insert do, slots aside. Also: peek_min names
-- what pop_min takes. Each is a case split on what is found; for the reset, what is found of each key, and that no other bound key has
-- the slot that goes or the one that comes.
use mathlib.Core.Path.{◌≡◌, refl, sym, ap, ◌∙◌, subst}
use mathlib.Core.Logic.{◌≢◌}
use mathlib.Core.Bool.{Bool, true, false, cond}
use mathlib.Core.Option.{Option, none, some}
use mathlib.Core.List.{List, [], ◌∷◌}
use Prim.Native.Nat.{ℕ, ◌≤◌}
use native.Mathlib.Omega.{arith}
use lib.Dec.{eqb, ltb}
use lib.ListN.{length, set, length-set, length-append}
use lib.Seq.{get_or-set_same, get_or-set_other}
use Rattle.numbers.specs.Frequency.{FIRST, CEILING}
use Rattle.lists.specs.Lists.{In, one, times}
use Rattle.lists.proofs.Tests.{by_eq, one_same}
use Rattle.lists.proofs.Members.{sum_append}
use Rattle.ledger.specs.Ledger.{Entry, Level, Ledger, Item, item, items, found, lookup, if_found, lowest, level, link, unlink, release}
use Rattle.ledger.specs.Buckets.{Outcome, insert, touch, remove, pop_min, peek_min}
use Rattle.ledger.specs.Cache.{Cache, new_cache, CacheFormed, Lookup, hit, miss, Least, fresh_out, value_of, bind, unbind, restarted, cache_insert, cache_get, cache_peek, cache_remove, cache_reset, cache_peek_lfu, cache_evict}
use Rattle.ledger.specs.Unslotted.{unslotted_list, unslotted, AlikeButSlots}
use Rattle.ledger.proofs.Items.{found_in, found_none, none_found, items_unlink, in_cut, found_link, found_link_other, found_cut_other}
use Rattle.ledger.proofs.Slots.{bound_slot, free_slot}
use Rattle.ledger.proofs.Changes.{fresh_again, fresh_after, release_formed}

-- two choices by what is found agree where both of their cases do
both_found : {A B : Type 0} {C : Type 0} (p : A → C) (q : B → C) (o : Option Item) (a : A) (b : B) (f : Item → A) (g : Item → B) →
    p a ≡ q b → ((x : Item) → p (f x) ≡ q (g x)) → p (if_found o a f) ≡ q (if_found o b g)
both_found p q none a b f g n s = n
both_found p q (some x) a b f g n s = s x

pub peek_names_pop : (l : Ledger) → (peek_min l).0 ≡ (pop_min l).0
unfolding peek_min pop_min
peek_names_pop l = both_found (λ (o : Outcome). o.0) (λ (o : Outcome). o.0) (lowest l.levels) _ _ _ _ refl (λ x. refl)

module _ (c : Cache) where
  pub peek_names_evicted : (cache_peek_lfu c).0 ≡ (cache_evict c).0
  unfolding cache_peek_lfu cache_evict
  peek_names_evicted =
      both_found (λ (o : Least × Cache). o.0) (λ (o : Least × Cache). o.0) (lowest c.table.levels) _ _ _ _ refl (λ x. refl)

  pub evict_pops : (cache_evict c).1.table ≡ (pop_min c.table).1
  unfolding cache_evict pop_min
  evict_pops = both_found (λ (o : Least × Cache). o.1.table) (λ (o : Outcome). o.1) (lowest c.table.levels) _ _ _ _ refl (λ x. refl)

  module _ (k : ℕ) where
    pub get_touches : (cache_get k c).1.table ≡ (touch CEILING k c.table).1
    unfolding cache_get touch
    get_touches = both_found (λ (o : Lookup × Cache). o.1.table) (λ (o : Outcome). o.1) (lookup k c.table) _ _ _ _ refl (λ x. refl)

    pub remove_removes : (cache_remove k c).1.table ≡ (remove k c.table).1
    unfolding cache_remove remove
    remove_removes = both_found (λ (o : Lookup × Cache). o.1.table) (λ (o : Outcome). o.1) (lookup k c.table) _ _ _ _ refl (λ x. refl)

    -- an insert of an unbound key, with a free slot and without
    pub insert_inserts : (s : ℕ) (rest : List ℕ) (v : ℕ) → lookup k c.table ≡ none → c.table.free ≡ s ∷ rest →
        (cache_insert k v c).1.table ≡ (insert k c.table).1
    unfolding cache_insert insert
    insert_inserts s rest v e f = rw (e, f) refl

    pub insert_pops : (x : Item) (v : ℕ) → lookup k c.table ≡ none → c.table.free ≡ [] → lowest c.table.levels ≡ some x →
        (cache_insert k v c).1.table ≡ (insert k (pop_min c.table).1).1
    unfolding cache_insert insert pop_min
    insert_pops x v e f g =
        let l = release x c.table in
        let n : lookup k l ≡ none = none_found k (items l.levels) (fresh_after k x c.table (found_none k (items c.table.levels) e)) in
        rw (e, f, g, n) refl

    -- A full cache still reuses the victim's slot (document 02, K4): where no slot is free, an insert of an unbound key takes the tail of the
    -- lowest list out, names it, and binds the key in the slot that was the victim's.
    pub victim_slot : (x : Item) (v : ℕ) → lookup k c.table ≡ none → c.table.free ≡ [] → lowest c.table.levels ≡ some x →
        ((cache_insert k v c).0 ≡ fresh_out x.key) ×
        (lookup k (cache_insert k v c).1.table ≡ some (record { key = k; frequency = FIRST; slot = x.slot; epoch = c.table.epoch }))
    unfolding cache_insert
    victim_slot x v e f g =
        let gone = fresh_after k x c.table (found_none k (items c.table.levels) e) in
        let new : Entry = record { key = k; slot = x.slot; epoch = c.table.epoch } in
        (rw (e, f, g) refl, rw (e, f, g) (found_link FIRST new (unlink x.key c.table.levels) gone))

-- A reset, and a remove with an insert

-- the slot of an entry does not matter to the lists
unslotted_link : (f k n s t : ℕ) (ls : List Level) →
    unslotted (link f (record { key = k; slot = s; epoch = n }) ls) ≡ unslotted (link f (record { key = k; slot = t; epoch = n }) ls)
unslotted_link f k n s t [] = refl
unslotted_link f k n s t (l ∷ ls) = go (ltb l.frequency f) (eqb l.frequency f) (unslotted_link f k n s t ls)
  where
    linked : ℕ → List Level
    linked r = link f (record { key = k; slot = r; epoch = n }) ls

    at : Bool → Bool → ℕ → List Level
    at a b r =
        let e : Entry = record { key = k; slot = r; epoch = n } in
        cond a (l ∷ linked r) (cond b (level f (e ∷ l.entries) ls) (level f (e ∷ []) (l ∷ ls)))

    go : (a b : Bool) → unslotted (linked s) ≡ unslotted (linked t) → unslotted (at a b s) ≡ unslotted (at a b t)
    go true b h = ap {B = List (ℕ × List (ℕ × ℕ))} (λ r. unslotted_list l ∷ r) h
    go false true h = refl
    go false false h = refl

-- what a peek answers
peek_some : (j : ℕ) (c : Cache) (y : Item) → lookup j c.table ≡ some y → (cache_peek j c).0 ≡ hit (value_of y c)
unfolding cache_peek
peek_some j c y e = rw e refl

peek_none : (j : ℕ) (c : Cache) → lookup j c.table ≡ none → (cache_peek j c).0 ≡ miss
unfolding cache_peek
peek_none j c e = rw e refl

-- the key of x, which is let go, bound again in the slot s that is free first then
module _ (c : Cache) (w : CacheFormed c) (x : Item) (found-x : lookup x.key c.table ≡ some x) (s : ℕ) (rest : List ℕ)
    (free : (release x c.table).free ≡ s ∷ rest) where
  abbrev rebound : Cache
  rebound = bind x.key (value_of x c) s rest (unbind x c)

  inside : In x (items c.table.levels)
  inside = (found_in x.key (items c.table.levels) x found-x).0

  -- the two entries of the key
  abbrev kept : Entry
  kept = record { key = x.key; slot = x.slot; epoch = c.table.epoch }

  abbrev taken : Entry
  taken = record { key = x.key; slot = s; epoch = c.table.epoch }

  own_answer : (cache_peek x.key (restarted x c)).0 ≡ (cache_peek x.key rebound).0
  own_answer =
      let ls = unlink x.key c.table.levels in
      let gone = fresh_again x c.table in
      let room = (free_slot (release x c.table) (release_formed c.table w.table x inside) s rest free).0 in
      let same = get_or-set_same (set c.values x.slot 0) s (value_of x c) 0 (simp length-set (omega (arith, w.fits))) in
      peek_some x.key (restarted x c) (item FIRST kept) (found_link FIRST kept ls gone)
      ∙ ap hit (sym same) ∙ sym (peek_some x.key rebound (item FIRST taken) (found_link FIRST taken ls gone))

  -- another key is found as before, in a slot that is neither of the two
  module _ (j : ℕ) (d : x.key ≢ j) where
    found_other : (e : Entry) → e.key ≡ x.key → found j (items (link FIRST e (unlink x.key c.table.levels))) ≡ lookup j c.table
    found_other e q =
        found_link_other j FIRST e (unlink x.key c.table.levels) (λ p. d (sym q ∙ p))
        ∙ ap (found j) (items_unlink x.key c.table.levels)
        ∙ found_cut_other j x.key (items c.table.levels) (λ p. d (sym p))

    same_value : (y : Item) → lookup j c.table ≡ some y → value_of y c ≡ value_of y rebound
    same_value y e =
        let q = found_in j (items c.table.levels) y e in
        let still = in_cut x.key (items c.table.levels) y q.0 (λ p. d (sym p ∙ q.1)) in
        let bound = (bound_slot (release x c.table) (release_formed c.table w.table x inside) y (rw items_unlink still)).1 in
        let apart = sum_append (λ t. one t y.slot) c.table.free (x.slot ∷ []) in
        let here = ap (times y.slot) free in
        let not-x : y.slot ≢ x.slot = λ p. absurd (omega (arith, one_same x.slot y.slot (sym p))) in
        let not-s : y.slot ≢ s = λ p. absurd (omega (arith, one_same s y.slot (sym p))) in
        sym (get_or-set_other (set c.values x.slot 0) s y.slot (value_of x c) 0 not-s ∙ get_or-set_other c.values x.slot y.slot 0 0 not-x)

    other_answer : (o : Option Item) → lookup j c.table ≡ o → (cache_peek j (restarted x c)).0 ≡ (cache_peek j rebound).0
    other_answer none e =
        peek_none j (restarted x c) (found_other kept refl ∙ e) ∙ sym (peek_none j rebound (found_other taken refl ∙ e))
    other_answer (some y) e =
        peek_some j (restarted x c) y (found_other kept refl ∙ e) ∙ ap hit (same_value y e)
        ∙ sym (peek_some j rebound y (found_other taken refl ∙ e))

  alike : AlikeButSlots (restarted x c) rebound
  alike = record {
    capacities = refl;
    epochs = refl;
    lists = unslotted_link FIRST x.key c.table.epoch x.slot s (unlink x.key c.table.levels);
    answers = λ j.
        by_eq x.key j
        (λ q. subst (λ (i : ℕ). (cache_peek i (restarted x c)).0 ≡ (cache_peek i rebound).0) q own_answer)
        (λ d. other_answer j d (lookup j c.table) refl);
  }

-- what the three calls come to
reset_restarts : (k : ℕ) (c : Cache) (x : Item) → lookup k c.table ≡ some x → (cache_reset k c).1 ≡ restarted x c
unfolding cache_reset
reset_restarts k c x e = rw e refl

remove_unbinds : (k : ℕ) (c : Cache) (x : Item) → lookup k c.table ≡ some x → (cache_remove k c).1 ≡ unbind x c
unfolding cache_remove
remove_unbinds k c x e = rw e refl

insert_binds : (k v : ℕ) (c : Cache) (s : ℕ) (rest : List ℕ) → lookup k c.table ≡ none → c.table.free ≡ s ∷ rest →
    (cache_insert k v c).1 ≡ bind k v s rest c
unfolding cache_insert
insert_binds k v c s rest e f = rw (e, f) refl

-- A reset of a bound key ends as a remove and then an insert of the key with its value: the same lists with the same epochs, and the same
-- value for every key. Only slots differ: the reset keeps its own (document 02, K4).
pub reset_as_rebound : (c : Cache) → CacheFormed c → (k v : ℕ) → (cache_peek k c).0 ≡ hit v →
    AlikeButSlots (cache_reset k c).1 (cache_insert k v (cache_remove k c).1).1
reset_as_rebound c w k v p = go (lookup k c.table) refl
  where
    front : (free : List ℕ) → 1 ≤ length free → (s : ℕ) × (rest : List ℕ) × (free ≡ s ∷ rest)
    front [] h = absurd (omega arith)
    front (s ∷ rest) h = (s, rest, refl)

    go : (o : Option Item) → lookup k c.table ≡ o → AlikeButSlots (cache_reset k c).1 (cache_insert k v (cache_remove k c).1).1
    go none e = let z : ◌≡◌ {A = ℕ} 0 1 = cc (peek_none k c e) in absurd (omega arith)
    go (some x) e =
        let q = (found_in k (items c.table.levels) x e).1 in
        let value : value_of x c ≡ v = cc (peek_some k c x e) in
        let f = front (release x c.table).free (omega (arith, length-append c.table.free (x.slot ∷ []))) in
        let gone : lookup x.key (release x c.table) ≡ none
        = none_found x.key (items (release x c.table).levels) (fresh_again x c.table) in
        rw (reset_restarts k c x e, remove_unbinds k c x e, ← q, ← value, insert_binds x.key (value_of x c) (unbind x c) f.0 f.1 gone f.2)
        (alike c w x (ap (λ (j : ℕ). lookup j c.table) q ∙ e) f.0 f.1 f.2)

-- Of three slots the first two are taken: key 1, reset, stays in slot 0.
pub reset_stays : lookup 1 (cache_reset 1 (cache_insert 2 0 (cache_insert 1 0 (new_cache 3)).1).1).1.table ≡
    some (record { key = 1; frequency = FIRST; slot = 0; epoch = 0 })
unfolding cache_reset cache_insert
reset_stays = refl
