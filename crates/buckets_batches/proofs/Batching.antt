-- A batch as far as it has got: every ledger that was held at the start has gone on to one that is held now, from which the items that
-- are left lead to where the whole batch leads. One item more is one single call; with none left the batch is done. A batch is never
-- refused, so nothing is said of what a refusal leaves.
use mathlib.Core.Path.{◌≡◌, refl, sym, ap, ◌∙◌, subst}
use mathlib.Core.List.{List, [], ◌∷◌}
use Prim.Native.Nat.{ℕ, suc, ◌+◌, ◌≤◌, ◌<◌}
use native.Mathlib.Omega.{arith}
use lib.ListN.{length, get_or, drop, drop_of_length-le}
use lib.Seq.{drop-cons}
use Rattle.numbers.specs.Frequency.{CEILING}
use Rattle.ledger.specs.Ledger.{Ledger}
use Rattle.ledger.specs.Buckets.{Reply, done, Outcome, was_done, batch, counted, insert, touch, remove, insert_batch, touch_batch, remove_batch}
use Rattle.promise.specs.Promise.{Does, Sound}
use Rattle.buckets_tables.specs.declared.State.{State}
use Rattle.buckets_tables.specs.Tables.{Tables}
use Rattle.buckets_tables.specs.Holds.{Holds}
use Rattle.buckets_tables.proofs.Doing.{does_done}
use Rattle.buckets_tables.specs.Lent.{buckets}

-- what a ledger has become after i items, n of them done
pub record Onward (call : ℕ → Ledger → Outcome) (ks : List ℕ) (l : Ledger) (i n : ℕ) (t : Tables) (s : State) : Type 0 where
  pub now_held : Ledger
  pub holds : Holds t s now_held
  pub count : (batch call ks l).0 ≡ n + (batch call (drop i ks) now_held).0
  pub after : (batch call ks l).1 ≡ (batch call (drop i ks) now_held).1

abbrev pub Batching : (call : ℕ → Ledger → Outcome) → (ks : List ℕ) → Tables → State → (i n : ℕ) → Tables → State → Type 0
Batching call ks t s i n t' s' = (l : Ledger) → Holds t s l → Onward call ks l i n t' s'

module _ (call : ℕ → Ledger → Outcome) (ks : List ℕ) (t : Tables) (s : State) where
  pub batching_start : Batching call ks t s 0 0 t s
  batching_start l h = record { now_held = l; holds = h; count = omega arith; after = refl }

  module _ (i n : ℕ) (t' : Tables) (s' : State) (b : Batching call ks t s i n t' s') where
    -- what the next call asks
    pub batching_sound : Sound buckets t s → Sound buckets t' s'
    batching_sound w = let o = b w.0 w.1 in (o.now_held, o.holds)

    pub batching_more : i < length ks → (r : Reply) (t'' : Tables) (s'' : State) → Does buckets (call (get_or ks i 0)) t' s' r t'' s'' →
        (d : ℕ) → d ≡ was_done r → Batching call ks t s (i + 1) (n + d) t'' s''
    batching_more below r t'' s'' does d is l h =
        let o = b l h in
        let k = get_or ks i 0 in
        let next : suc i ≡ i + 1 = omega arith in
        let rest = drop-cons ks i 0 below ∙ ap (λ (m : ℕ). k ∷ drop m ks) next in
        let first = ap was_done (does o.now_held o.holds).answer in
        let left = ap (λ js. batch call js o.now_held) rest in
        record {
          now_held = (call k o.now_held).1;
          holds = (does o.now_held o.holds).holds;
          count = let p = o.count in let q = ap (λ (z : ℕ × Ledger). z.0) left in omega arith;
          after = o.after ∙ ap (λ (z : ℕ × Ledger). z.1) left;
        }

    pub batching_end : length ks ≤ i → Does buckets (λ l. counted (batch call ks l)) t s (done (n ∷ [])) t' s'
    batching_end all =
        let none_left = drop_of_length-le ks all in
        does_done (λ l. counted (batch call ks l)) t s (n ∷ []) t' s'
        (λ l h.
        let o = b l h in
        let q = ap (λ js. (batch call js o.now_held).0) none_left in
        let p : n ≡ (batch call ks l).0 = (let e = o.count in omega arith) in
        ap (λ (m : ℕ). done (m ∷ [])) p)
        (λ l h.
        let o = b l h in
        subst (Holds t' s') (sym (o.after ∙ ap (λ js. (batch call js o.now_held).1) none_left)) o.holds)

-- The three calls

module _ (ks : List ℕ) (t : Tables) (s : State) (i n : ℕ) (t' : Tables) (s' : State) (all : length ks ≤ i) where
  pub inserts_end : Batching insert ks t s i n t' s' → Does buckets (insert_batch ks) t s (done (n ∷ [])) t' s'
  unfolding insert_batch
  inserts_end b = batching_end insert ks t s i n t' s' b all

  pub touches_end : Batching (touch CEILING) ks t s i n t' s' → Does buckets (touch_batch ks) t s (done (n ∷ [])) t' s'
  unfolding touch_batch
  touches_end b = batching_end (touch CEILING) ks t s i n t' s' b all

  pub removes_end : Batching remove ks t s i n t' s' → Does buckets (remove_batch ks) t s (done (n ∷ [])) t' s'
  unfolding remove_batch
  removes_end b = batching_end remove ks t s i n t' s' b all
