-- Writing into a buffer, one piece behind another; the digits that the kit's `decimal` finds are those of the definition. What was written
-- so far is one list, which only grows at its end.
use mathlib.Core.Path.{◌≡◌, sym, ap, ◌∙◌, subst}
use mathlib.Core.List.{List, ◌++◌, append_assoc}
use Prim.Native.Nat.{ℕ, zero, suc, ◌+◌, ◌*◌, ◌^◌, ◌/◌, ◌≤◌, ◌<◌, ◌-◌}
use native.Mathlib.Nat.{pow-succ', pow-le-pow_right}
use native.Mathlib.Omega.{arith}
use borrow.Author.Tests.{lt-ltb, le-ltb}
use lib.ListN.{length, take, length-append}
use Rattle.lists.proofs.Tests.{by_lt}
use Rattle.io.specs.Counts.{IsPrefixLen}
use Rattle.io.specs.Digits.{last_digits, IsDigitCount}
use Rattle.trace.specs.Lines.{DIGITS, places, decimal}
use Rattle.trace.specs.Written.{Writes, Spells}

-- Piece behind piece

module _ (a : List ℕ) (i : ℕ) (xs b : List ℕ) (j : ℕ) (ys d : List ℕ) (k : ℕ) where
  pub writes_then : Writes a i xs b j → Writes b j ys d k → Writes a i (xs ++ ys) d k
  writes_then p q = record {
    next = rw length-append (omega (arith, p.next, q.next));
    written = q.written ∙ ap (λ (l : List ℕ). l ++ ys) p.written ∙ append_assoc (take i a) xs ys;
  }

  pub spells_then : (m n : ℕ) → Spells a i xs m b j → Spells b j ys n d k → Spells a i (xs ++ ys) (m + n) d k
  spells_then m n p q = record { writes = writes_then p.writes q.writes; short = omega (arith, p.short, q.short) }

-- some bytes are no more than a number
pub spelled : (a : List ℕ) (i : ℕ) (xs b : List ℕ) (j m : ℕ) → length xs ≤ m → Writes a i xs b j → Spells a i xs m b j
spelled a i xs b j m h w = record { writes = w; short = omega (arith, w.next) }

pub spells_more : (a : List ℕ) (i : ℕ) (xs b : List ℕ) (j m n : ℕ) → m ≤ n → Spells a i xs m b j → Spells a i xs n b j
spells_more a i xs b j m n h w = record { writes = w.writes; short = omega (arith, w.short) }

-- Digits

-- one place less for a tenth
fewer : (q n : ℕ) → IsDigitCount 10 1 n (suc (suc q)) → IsDigitCount 10 1 (n / 10) (suc q)
fewer q n few =
    let high : n < 10 * 10 ^ suc q = rw pow-succ' at few.1 in
    let less : suc (suc q) - 1 ≡ suc q = omega arith in
    let low : 10 * 10 ^ q ≤ n = rw (less, pow-succ') at (few.2 (omega arith)) in
    let same : suc q - 1 ≡ q = omega arith in
    (omega arith, omega arith, λ h. rw same (omega arith))

-- fewest digits are counted place by place
pub places_are : (f r n : ℕ) → r ≤ f → IsDigitCount 10 1 n r → r ≡ places f n
places_are zero r n h few = absurd (omega (arith, few.0))
places_are (suc f) zero n h few = absurd (omega (arith, few.0))
places_are (suc f) (suc zero) n h few =
    let small : n < 10 = few.1 in
    rw (lt-ltb n 10 small)
places_are (suc f) (suc (suc q)) n h few =
    let less : suc (suc q) - 1 ≡ suc q = omega arith in
    let low : 10 * 10 ^ q ≤ n = rw (less, pow-succ') at (few.2 (omega arith)) in
    let some : 1 ≤ 10 ^ q = pow-le-pow_right {n = 10} (omega arith) {i = 0} {j = q} (omega arith) in
    rw (le-ltb n 10 (omega arith)) (ap suc (places_are f (suc q) (n / 10) (omega arith) (fewer q n few)))

pub decimal_is : (r n : ℕ) → r ≤ DIGITS → IsDigitCount 10 1 n r → last_digits 10 r n ≡ decimal n
unfolding decimal
decimal_is r n h few = ap (λ (k : ℕ). last_digits 10 k n) (places_are DIGITS r n h few)

-- a number of 64 bits has at most twenty digits
pub digits_few : (n r : ℕ) → n < 2 ^ 64 → IsDigitCount 10 1 n r → r ≤ DIGITS
digits_few n r h few =
    by_lt DIGITS r
    (λ more.
    let large : 10 ^ 20 ≤ 10 ^ (r - 1) = pow-le-pow_right {n = 10} (omega arith) {i = 20} {j = r - 1} (omega arith) in
    let low : 10 ^ (r - 1) ≤ n = few.2 (omega arith) in
    absurd (omega arith))
    (λ l. l)

pub number_spelled : (a : List ℕ) (i : ℕ) (b : List ℕ) (j n r : ℕ) (ds : List ℕ) → n < 2 ^ 64 → IsPrefixLen r ds → IsDigitCount 10 1 n r → take r ds ≡ last_digits 10 r n →
    Writes a i (take r ds) b j → Spells a i (decimal n) DIGITS b j
number_spelled a i b j n r ds h count few t w =
    let most : r ≤ DIGITS = digits_few n r h few in
    subst (λ (l : List ℕ). Spells a i l DIGITS b j) (t ∙ decimal_is r n most few) (spelled a i (take r ds) b j DIGITS (omega (arith, count.1)) w)

-- What is written leaves no choice

pub writes_agree : (out : List ℕ) (at : ℕ) (bytes out₁ out₂ : List ℕ) (r₁ r₂ : ℕ) → Writes out at bytes out₁ r₁ → Writes out at bytes out₂ r₂ →
    (r₁ ≡ r₂) × (take r₁ out₁ ≡ take r₂ out₂)
writes_agree out at bytes out₁ out₂ r₁ r₂ a b = (a.next ∙ sym b.next, a.written ∙ sym b.written)
