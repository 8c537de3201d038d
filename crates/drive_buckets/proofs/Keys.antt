-- Filling a batch: the keys so far, and those that are still to come from the next one on, are all of them.
use Rattle.std.proofs.Common.{◌≡◌, ℕ, suc, ◌+◌, ◌-◌, ◌%◌, ◌^◌, ◌<◌, ◌≤◌, List, ◌++◌, length, take, set, refl, append_assoc, append-nil, add-one, arith, length-set, take_all, take-suc-set}
use Rattle.drive_buckets.specs.Operations.{keys_from}

pub record Filling (first : ℕ) (items₀ items : List ℕ) (key j : ℕ) : Type 0 where
  pub size : length items ≡ length items₀
  pub far : j ≤ length items₀
  pub whole : take j items ++ keys_from key (length items₀ - j) ≡ keys_from first (length items₀)

pub filling_start : (first : ℕ) (items : List ℕ) → Filling first items items first 0
filling_start first items =
    let all : length items - 0 ≡ length items = omega arith in
    record { size = refl; far = omega arith; whole = rw all }

pub filling_more : (first : ℕ) (items₀ items : List ℕ) (key j next : ℕ) → j < length items → next ≡ (key + 1) % 2 ^ 64 → Filling first items₀ items key j →
    Filling first items₀ (set items j key) next (j + 1)
filling_more first items₀ items key j next more after p =
    let one : length items₀ - j ≡ suc (length items₀ - suc j) = omega (arith, p.size) in
    record {
      size = simp length-set p.size;
      far = omega (arith, p.size);
      whole = rw (add-one j, take-suc-set items j key, append_assoc, after) (rw one at p.whole);
    }

pub filling_end : (first : ℕ) (items₀ items : List ℕ) (key j : ℕ) → length items ≤ j → Filling first items₀ items key j → items ≡ keys_from first (length items₀)
filling_end first items₀ items key j end p =
    let none : length items₀ - j ≡ 0 = omega (arith, p.size) in
    let all : take j items ≡ items = take_all j items end in
    rw (none, append-nil, all) at p.whole
