-- Which operation a code is, by the tests on the way to it; there the table of operations computes. What is done is the promise of the call.
use mathlib.Core.Path.{◌≡◌, refl, sym, ap, ◌∙◌}
use mathlib.Core.List.{List, ◌∷◌, ◌++◌}
use Prim.Native.Nat.{ℕ, zero, suc, ◌+◌, ◌-◌, ◌^◌, ◌%◌, ◌≤◌, ◌<◌}
use native.Mathlib.Omega.{arith}
use lib.ListN.{length, take, drop}
use lib.Seq.{length-take-le, length_front, take-append_seam}
use borrow.Author.Tests.{ne_eqb, lt-ltb, le-ltb}
use Rattle.numbers.specs.Marks.{LIMIT}
use Rattle.buckets_tables.specs.declared.State.{State}
use Rattle.buckets_tables.specs.Lent.{buckets}
use Rattle.cache_tables.specs.Tables.{CacheTables}
use Rattle.trace.specs.declared.Word.{Word}
use Rattle.trace.specs.declared.Word.TheVariants.{Bad}
use Rattle.drive_lines.specs.declared.Told.{Told}
use Rattle.drive_lines.specs.declared.Told.TheVariants.{Just}
use Rattle.drive_lines.specs.Driving.{Reports}
use Rattle.drive_buckets.specs.Operations as bucket
use Rattle.drive_buckets.specs.Operations.{bucket_call, keys_from}
use Rattle.drive_damage.specs.Damage.{Damages, Alters}
use Rattle.drive_cache.specs.Operations as cached
use Rattle.drive_cache.specs.Operations.{cache_call, DrivesCache}
use Rattle.drive_record.specs.Operations.{operation_of, surplus_of, batch_of, Acts}

module _ (code a b : ℕ) (t : CacheTables) (s : State) (told : Told) (t' : CacheTables) (s' : State) where
  -- Single operations

  pub acted_check : code ≡ 21 → Reports buckets t.base s told → t' ≡ t → s' ≡ s → Acts (operation_of code a b) a b t s told t' s'
  acted_check e p q r = rw e (p, q, r)

  pub acted_store : code ≡ 30 → (w : Word) → told ≡ Just w → Damages a b t w t' → s' ≡ s → Acts (operation_of code a b) a b t s told t' s'
  acted_store e w p d r = rw e (w, p, d, r)

  pub acted_field : code ≡ 31 → (w : Word) → told ≡ Just w → Alters a b s w s' → t' ≡ t → Acts (operation_of code a b) a b t s told t' s'
  acted_field e w p d r = rw e (w, p, d, r)

  module _ (not-check : code ≡ 21 → ⊥) (not-store : code ≡ 30 → ⊥) (not-field : code ≡ 31 → ⊥) where
    pub acted_bucket : code < 40 → bucket.DrivesBuckets (bucket_call code a b) t.base s told t'.base s' → t'.values ≡ t.values →
        Acts (operation_of code a b) a b t s told t' s'
    acted_bucket h d q = rw (ne_eqb code 21 not-check, ne_eqb code 30 not-store, ne_eqb code 31 not-field, lt-ltb code 40 h) (d, q)

    pub acted_cache : 40 ≤ code → code < 60 → DrivesCache (cache_call code a b) t s told t' s' → Acts (operation_of code a b) a b t s told t' s'
    acted_cache l h d = rw (ne_eqb code 21 not-check, ne_eqb code 30 not-store, ne_eqb code 31 not-field, le-ltb code 40 l, lt-ltb code 60 h) d

    pub acted_batch : 40 ≤ code → 60 ≤ code → Acts (batch_of code a b) a b t s told t' s' → Acts (operation_of code a b) a b t s told t' s'
    acted_batch l h d = rw (ne_eqb code 21 not-check, ne_eqb code 30 not-store, ne_eqb code 31 not-field, le-ltb code 40 l, le-ltb code 60 h) d

  -- Batches

  module _ (m : ℕ) (more : m ≡ surplus_of code) (few : b ≤ LIMIT - m) (ks : List ℕ) (keys : ks ≡ keys_from a b) where
    pub batched_bucket : code < 63 → bucket.DrivesBuckets (bucket.batch_call code ks) t.base s told t'.base s' → t'.values ≡ t.values →
        Acts (batch_of code a b) a b t s told t' s'
    batched_bucket h d q = rw (sym more, le-ltb (LIMIT - m) b few, lt-ltb code 63 h, sym keys) (d, q)

    pub batched_cache : 63 ≤ code → (vs : List ℕ) → vs ≡ keys_from a (b + m) → DrivesCache (cached.batch_call code ks vs) t s told t' s' →
        Acts (batch_of code a b) a b t s told t' s'
    batched_cache h vs values d = rw (sym more, le-ltb (LIMIT - m) b few, le-ltb code 63 h, sym keys, sym values) d

-- more keys or values than there can be slots: nothing is done
pub batched_bad : (code a b : ℕ) (t : CacheTables) (s : State) (m : ℕ) → m ≡ surplus_of code → LIMIT - m < b → Acts (batch_of code a b) a b t s (Just Bad) t s
batched_bad code a b t s m more h = rw (sym more, lt-ltb (LIMIT - m) b h) ((refl, refl, refl), refl)

-- The values of a batch fill the first n places of their table, and begin with its keys

module _ (n : ℕ) (items got : List ℕ) (room : n ≤ length items) (kept : length got ≡ length (take n items)) where
  pub values_size : length (take n (got ++ drop n items)) ≡ n
  values_size = let size = length_front items got n kept in length-take-le n (got ++ drop n items) (omega arith)

  pub values_lent : (a : ℕ) → got ≡ keys_from a (length (take n items)) → take n (got ++ drop n items) ≡ keys_from a n
  values_lent a filled =
      let size : length (take n items) ≡ n = length-take-le n items room in
      ap (λ (m : ℕ). take m (got ++ drop n items)) (sym (kept ∙ size)) ∙ take-append_seam got (drop n items) ∙ filled ∙ ap (keys_from a) size

front : (a b n : ℕ) → b ≤ n → take b (keys_from a n) ≡ keys_from a b
front a zero n h = refl
front a (suc b) zero h = absurd (omega arith)
front a (suc b) (suc n) h = ap (λ (ks : List ℕ). a ∷ ks) (front ((a + 1) % 2 ^ 64) b n (omega arith))

pub keys_lent : (a b n : ℕ) (values : List ℕ) → b ≤ n → values ≡ keys_from a n → take b values ≡ keys_from a b
keys_lent a b n values h e = ap (take b) e ∙ front a b n h
