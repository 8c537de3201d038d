-- What the tables hold after regrouping, and that the calls do what the ledger's calls do. The lists are the ledger's by one law of `settle`; all
-- else that the tables hold stays, and the sums over the items do not change.
use mathlib.Core.Path.{◌≡◌, refl, sym, ap, ◌∙◌, subst}
use mathlib.Core.Bool.{Bool, true, false, cond}
use mathlib.Core.List.{List, [], ◌∷◌, ◌++◌}
use Prim.Native.Nat.{ℕ, ◌≤◌, ◌<◌, ◌-◌}
use native.Mathlib.Omega.{arith}
use lib.Dec.{eqb}
use Rattle.numbers.specs.Frequency.{FIRST, halved_times}
use Rattle.lists.specs.Lists.{one}
use Rattle.lists.proofs.Tests.{if_same}
use Rattle.ledger.specs.Ledger.{Level, Ledger, items, slotted, Rising}
use Rattle.ledger.specs.Buckets.{done}
use Rattle.ledger.specs.Regroup as ledger
use Rattle.ledger.specs.Regroup.{regrouped, decay_halve_times, lowered, rebase_by, rebase_min_freq}
use Rattle.ledger.proofs.Split.{level_of}
use Rattle.ledger.proofs.Regrouped.{regroup_sum, regroup_size, regroup_formed, regrouped_same_above}
use Rattle.ledger.proofs.Halvings.{rebase_is}
use Rattle.promise.specs.Promise.{SoundBeside, DoesBeside}
use Rattle.bucket_table.specs.declared.Buckets.{Buckets}
use Rattle.levels.specs.Levels as levels
use Rattle.levels.specs.Levels.{level}
use Rattle.levels.specs.Held.{Tabs, Held, LevelsSound}
use Rattle.levels.specs.Calls.{SoundWith, LowestFrequency}
use Rattle.buckets_tables.specs.declared.State.{State}
use Rattle.buckets_tables.specs.declared.Guests.{Guests}
use Rattle.buckets_tables.specs.Lent.{buckets}
use Rattle.buckets_tables.specs.Holds.{entries_at, levels_at, lowest_of, Holds}
use Rattle.buckets_tables.specs.Calls.{recounted}
use Rattle.buckets_tables.proofs.Entries.{entries_append}
use Rattle.buckets_tables.proofs.Steps.{lowest_levels}
use Rattle.buckets_tables.proofs.Asked.{sized_like, AsLong}
use Rattle.buckets_tables.proofs.Doing.{does_done}
use Rattle.buckets_regroup.specs.declared.Change.TheVariants.{Lowered}
use Rattle.buckets_regroup.specs.Change.{changed}
use Rattle.buckets_regroup.specs.Regroup.{settle, regroup, Regroups}
use Rattle.buckets_regroup.specs.Calls.{around, by_change}
use Rattle.buckets_regroup.proofs.Changes.{Lowers}

-- ---- lists of slots read as the ledger's lists

module _ (k e : List ℕ) where
  levels_settle : (f : ℕ) (xs : List ℕ) (ls : List levels.Level) → levels_at k e (settle f xs ls) ≡ ledger.join f (entries_at k e xs) (levels_at k e ls)
  levels_settle f xs [] = refl
  levels_settle f xs (l ∷ ls) = go (eqb l.freq f)
    where
      go : (b : Bool) →
          levels_at k e (cond b (level f (l.slots ++ xs) ∷ ls) (level f xs ∷ l ∷ ls))
          ≡ cond b (level_of f (entries_at k e l.slots ++ entries_at k e xs) ∷ levels_at k e ls)
          (level_of f (entries_at k e xs) ∷ level_of l.freq (entries_at k e l.slots) ∷ levels_at k e ls)
      go true = ap (λ es. level_of f es ∷ levels_at k e ls) (entries_append k e l.slots xs)
      go false = refl

  pub levels_regroup : (g : ℕ → ℕ) (ls : List levels.Level) → levels_at k e (regroup g ls) ≡ ledger.regroup g (levels_at k e ls)
  levels_regroup g [] = refl
  levels_regroup g (l ∷ ls) =
      levels_settle (g l.freq) l.slots (regroup g ls) ∙ ap (ledger.join (g l.freq) (entries_at k e l.slots)) (levels_regroup g ls)

-- ---- what the tables hold

module _ (b : Guests (List ℕ) × List ℕ) (t t' : Tabs) (z : AsLong t t') where
  abbrev k : List ℕ
  k = b.0.keys

  abbrev e : List ℕ
  e = b.1

  module _ (g : ℕ → ℕ) (low : Lowers g) (s : State) (bk : Buckets) (re : Regroups g t s.buckets t' bk)
      (n : ℕ) (lf : LowestFrequency t'.buckets bk n) (l : Ledger) (h : Holds (around t b) s l) where
    abbrev m : Ledger
    m = regrouped g l

    bound_still : (x : ℕ) → slotted x (items m.levels) ≡ slotted x (items l.levels)
    bound_still x = regroup_sum (λ y. one y.slot x) g l.levels

    lists_now : Held t' bk (regroup g h.slots)
    lists_now = re.holds h.slots h.lists

    entries_now : m.levels ≡ levels_at k e (regroup g h.slots)
    entries_now = ap (ledger.regroup g) h.entries ∙ sym (levels_regroup k e g h.slots)

    regrouped_holds : Holds (around t' b) (recounted s s.count n s.free bk) m
    regrouped_holds =
        record {
          formed = regroup_formed g low.up l h.formed (λ f p q. let w = low.less f p in (low.some f, omega arith));
          limit = h.limit;
          capacity = h.capacity;
          sized =
              sized_like (around t b) l.capacity h.sized k t'.freqs e t'.prevs t'.nexts b.0.arena b.0.index t'.buckets t'.spares
              refl z.freqs refl z.prevs z.nexts refl refl z.buckets z.spares;
          count = h.count ∙ sym (regroup_size g l);
          lowest =
              lf.answer t'.freqs t'.prevs t'.nexts t'.spares (regroup g h.slots) lists_now
              ∙ lowest_levels k e (regroup g h.slots) ∙ ap lowest_of (sym entries_now);
          epoch = h.epoch;
          slots = regroup g h.slots;
          lists = lists_now;
          entries = entries_now;
          free = h.free;
          zeros = h.zeros;
          index_sound = h.index_sound;
          indexed = λ x.
              let still = bound_still x in
              let o = h.indexed x in
              (λ has. let q = o.0 has in omega arith, λ w. o.1 (omega arith));
        }

-- ---- the calls

module _ (t : Tabs) (s : State) where
  pub some_lists : SoundBeside buckets (around t) s → LevelsSound t s.buckets
  some_lists w = let c = w.1.1 in (c.slots, c.lists)

  module _ (g : ℕ → ℕ) (t' : Tabs) (bk : Buckets) (re : Regroups g t s.buckets t' bk) where
    pub lists_after : SoundBeside buckets (around t) s → SoundWith t'.buckets bk
    lists_after w = let q = some_lists w in (t'.freqs, t'.prevs, t'.nexts, t'.spares, (regroup g q.0, re.holds q.0 q.1))

    pub regroup_does : Lowers g → AsLong t t' → (n : ℕ) → LowestFrequency t'.buckets bk n →
        (s' : State) → s' ≡ recounted s s.count n s.free bk → DoesBeside buckets (by_change g) (around t) s (done []) (around t') s'
    regroup_does low z n lf s' e b =
        does_done (by_change g) (around t b) s [] (around t' b) s' (λ l h. refl)
        (λ l h. rw e (regrouped_holds b t t' z g low s bk re n lf l h))

  pub halves : (n : ℕ) (t' : Tabs) (s' : State) → DoesBeside buckets (by_change (halved_times n)) (around t) s (done []) (around t') s' →
      DoesBeside buckets (decay_halve_times n) (around t) s (done []) (around t') s'
  unfolding decay_halve_times
  halves n t' s' d = d

  -- the lowest frequency is at most 1: nothing is to be done
  pub rebase_none : s.lowest ≤ 1 → DoesBeside buckets rebase_min_freq (around t) s (done []) (around t) s
  unfolding rebase_min_freq
  rebase_none q b =
      does_done rebase_min_freq (around t b) s [] (around t b) s (λ l h. refl)
      (λ l h. subst (Holds (around t b) s) (sym (go l l.levels h.formed.rising h.lowest)) h)
    where
      go : (l : Ledger) (ms : List Level) → Rising 0 ms → s.lowest ≡ lowest_of ms → rebase_by ms l ≡ l
      go l [] r e = refl
      go l (m ∷ ms) r e = let p = r.0 in if_same m.frequency FIRST _ _ (omega arith)

  -- else all levels are lowered by it less one
  pub rebases : 1 < s.lowest → (t' : Tabs) (s' : State) → DoesBeside buckets (by_change (changed (Lowered (s.lowest - 1)))) (around t) s (done []) (around t') s' →
      DoesBeside buckets rebase_min_freq (around t) s (done []) (around t') s'
  unfolding rebase_min_freq
  rebases q t' s' d b =
      does_done rebase_min_freq (around t b) s [] (around t' b) s' (λ l h. refl)
      (λ l h. subst (Holds (around t' b) s') (go l h l.levels refl) (d b l h).holds)
    where
      go : (l : Ledger) → Holds (around t b) s l → (ms : List Level) → l.levels ≡ ms →
          regrouped (changed (Lowered (s.lowest - 1))) l ≡ (rebase_min_freq l).1
      go l h [] z = absurd (let c = h.lowest ∙ ap lowest_of z in omega arith)
      go l h (m ∷ ms) z =
          let c : s.lowest ≡ m.frequency = h.lowest ∙ ap lowest_of z in
          let r : Rising 0 (m ∷ ms) = subst (Rising 0) z h.formed.rising in
          let r' : Rising (m.frequency - 1) (m ∷ ms) = (let p = r.0 in (omega arith, r.1, r.2, r.3)) in
          regrouped_same_above l h.formed (changed (Lowered (s.lowest - 1))) (m.frequency - 1) (rw z r') (lowered m.frequency)
          (λ f p _. omega arith)
          ∙ sym (rebase_is l h.formed m ms z)
