-- The check of the cache from that of the buckets: the length of the table of values comes first, so that the lengths are told before
-- anything else; then the buckets' own answer is the cache's, but for the values of the free slots.
use mathlib.Core.Path.{◌≡◌, refl, sym, ap, ◌∙◌, subst}
use mathlib.Core.Logic.{◌≢◌, ◌↔◌}
use mathlib.Core.Bool.{Bool, true, false}
use mathlib.Core.List.{List}
use Prim.Native.Nat.{ℕ, ◌≤◌}
use native.Mathlib.Omega.{arith}
use lib.ListN.{length, get_or}
use Rattle.numbers.specs.Marks.{LIMIT}
use Rattle.numbers.specs.declared.Refusal.{Refusal}
use Rattle.numbers.specs.declared.Refusal.TheVariants.{Corrupt, Short, Capacity}
use Rattle.std.proofs.Common.{Result, Ok, Err}
use Rattle.lists.specs.Lists.{times}
use Rattle.lists.proofs.Tests.{by_lt, if_less, if_not_less, said_no}
use Rattle.ledger.specs.Ledger.{Ledger}
use Rattle.ledger.specs.Cache.{Cache}
use Rattle.promise.specs.Promise.{Reading, over, short, corrupt, ledger, Reads, checked_of, Checks, Sound}
use Rattle.promise.specs.Making.{Sizing, too_large, too_short, fitting, Sizes, measured_of, Measures}
use Rattle.promise.proofs.Promises.{sound_done}
use Rattle.buckets_tables.specs.declared.State.{State}
use Rattle.buckets_tables.specs.Tables.{Tables, Sized}
use Rattle.buckets_tables.specs.Holds.{Holds}
use Rattle.buckets_tables.specs.Lent.{buckets}
use Rattle.buckets_check.proofs.Sides.{free_past, free_used, free_unused}
use Rattle.cache_tables.specs.Tables.{with_values, CacheHolds}
use Rattle.cache_tables.specs.Lent.{cache}
use Rattle.cache_check.specs.Check.{short_of, AllowedBelow}

-- A table of values of another length

module _ (t : Tables) (vs : List ℕ) (a : Refusal) where
  pub other_measures : (c : ℕ) → length vs ≢ c → a ≡ short_of c → Measures cache (with_values t vs) c (Err a)
  other_measures c n e =
      by_lt LIMIT c (λ l. (too_large, l, ap Err (e ∙ if_less LIMIT c Capacity Short l)))
      (λ l. (too_short, (l, λ h. n h.1), ap Err (e ∙ if_not_less LIMIT c Capacity Short l)))

  pub other_checks : (s : State) → length vs ≢ s.capacity → a ≡ short_of s.capacity → Checks cache (with_values t vs) s (Err a)
  other_checks s n e =
      by_lt LIMIT s.capacity (λ l. (over, l, ap Err (e ∙ if_less LIMIT s.capacity Capacity Short l)))
      (λ l. (short, (l, λ h. n h.1), ap Err (e ∙ if_not_less LIMIT s.capacity Capacity Short l)))

-- One of the right length

pub same_measures : (t : Tables) (vs : List ℕ) (c : ℕ) (a : Result Unit Refusal) → length vs ≡ c → Measures buckets t c a → Measures cache (with_values t vs) c a
same_measures t vs c a len m = go m.0 m.1 m.2
  where
    go : (v : Sizing buckets) → Sizes buckets t c v → a ≡ measured_of buckets v → Measures cache (with_values t vs) c a
    go too_large w q = (too_large, w, q)
    go too_short w q = (too_short, (w.0, λ h. w.1 h.0), q)
    go fitting w q = (fitting, (w.0, (w.1, len)), q)

-- the free slots' values are 0 exactly when each slot has a value that it may have
module _ (t : Tables) (s : State) (l : Ledger) (h : Holds t s l) (vs : List ℕ) (len : length vs ≡ s.capacity) where
  sizes : length vs ≡ length t.arena
  sizes = let a = h.sized.arena_size in let c = h.capacity in omega arith

  pub allowed_zeros : AllowedBelow t.arena vs (length vs) → (x : ℕ) → times x l.free ≡ 1 → get_or vs x 0 ≡ 0
  allowed_zeros all x one =
      let z = sizes in
      by_lt x (length vs)
      (λ b. all x b (λ u. absurd (let n = free_used t.arena s.free l.free h.free x u in omega arith)))
      (λ b. absurd (let n = free_past t.arena s.free l.free h.free x (omega arith) in omega arith))

  pub zeros_allowed : ((x : ℕ) → times x l.free ≡ 1 → get_or vs x 0 ≡ 0) → AllowedBelow t.arena vs (length vs)
  zeros_allowed zeros x b n = let z = sizes in zeros x (free_unused t.arena s.free l.free h.free x (omega arith) n)

  pub allowed_holds : AllowedBelow t.arena vs (length vs) → CacheHolds (with_values t vs) s (record { table = l; values = vs })
  allowed_holds all = record {
    table = h;
    values = refl;
    formed = record { table = h.formed; fits = len ∙ h.capacity; zeros = allowed_zeros all };
  }

module _ (t : Tables) (vs : List ℕ) (s : State) (len : length vs ≡ s.capacity) (a : Result Unit Refusal) (c : Checks buckets t s a) where
  -- the buckets' refusal
  pub below_refuses : (why : Refusal) → a ≡ Err why → (r : Result Unit Refusal) → r ≡ Err why → Checks cache (with_values t vs) s r
  below_refuses why e r told = go c.0 c.1 (told ∙ sym e ∙ c.2)
    where
      go : (v : Reading buckets) → Reads buckets t s v → r ≡ checked_of buckets v → Checks cache (with_values t vs) s r
      go over w q = (over, w, q)
      go short w q = (short, (w.0, λ h. w.1 h.0), q)
      go corrupt w q = (corrupt, (w.0, (w.1, len), λ d h. w.2 d.table h.table), q)
      go (ledger l) w q = let z : ◌≡◌ {A = ℕ} 0 1 = cc in absurd (omega arith)

  -- where they go on, the values decide
  module _ (u : Unit) (yes : a ≡ Ok u) (ok : Bool) (looked : (ok ≡ true) ↔ AllowedBelow t.arena vs (length vs)) where
    held : Sound buckets t s
    held = sound_done buckets t s a c u yes

    fits : (s.capacity ≤ LIMIT) × (Sized t s.capacity × (length vs ≡ s.capacity))
    fits =
        let lim = held.1.limit in
        let e = held.1.capacity in
        (omega arith, (subst (Sized t) (sym e) held.1.sized, len))

    pub values_refuse : ok ≡ false → Checks cache (with_values t vs) s (Err Corrupt)
    values_refuse off = (corrupt, (fits.0, fits.1, none-held), refl)
      where
        none-held : (d : Cache) → CacheHolds (with_values t vs) s d → ⊥
        none-held d h =
            said_no _ looked off
            (zeros_allowed t s d.table h.table vs len (λ x one. ap (λ (us : List ℕ). get_or us x 0) h.values ∙ h.formed.zeros x one))

    pub values_hold : ok ≡ true → Checks cache (with_values t vs) s (Ok tt)
    values_hold all =
        (ledger (record { table = held.0; values = vs }), (fits.0, fits.1, allowed_holds t s held.0 held.1 vs len (looked.0 all)), refl)
