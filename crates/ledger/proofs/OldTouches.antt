-- The two old touches agree at the cap 2^64 - 1, and each is the one touch at its cap: a frequency below a cap is below the ceiling too.
use mathlib.Core.Path.{◌≡◌, refl, sym, ap, ◌∙◌}
use mathlib.Core.Bool.{cond}
use mathlib.Core.Option.{Option, none, some}
use Prim.Native.Nat.{ℕ, ◌≤◌, ◌+◌}
use native.Mathlib.Omega.{arith}
use lib.Dec.{ltb}
use Rattle.numbers.specs.Frequency.{CEILING, raised, cap_of}
use Rattle.numbers.specs.declared.Refusal.TheVariants.{Absent}
use Rattle.lists.proofs.Tests.{by_lt, if_less, if_not_less}
use Rattle.ledger.specs.Ledger.{Ledger, Item, lookup, if_found}
use Rattle.ledger.specs.Buckets.{Outcome, refused, touch}
use Rattle.ledger.specs.OldTouches.{goes, plain_step, plain_touch, capped_touch}

module _ (x : Item) (l : Ledger) where
  -- one step, up to a cap that is at most the ceiling
  capped_step : (cap : ℕ) → cap ≤ CEILING → cond (ltb x.frequency cap) (plain_step x l) (goes x x.frequency l) ≡ goes x (raised cap x.frequency) l
  capped_step cap fits =
      let f = x.frequency in
      by_lt f cap
      (λ low.
      if_less f cap (plain_step x l) (goes x f l) low
      ∙ if_less f CEILING (goes x (f + 1) l) (goes x f l) (omega arith)
      ∙ sym (ap (λ (n : ℕ). goes x n l) (if_less f cap (f + 1) f low)))
      (λ high. if_not_less f cap (plain_step x l) (goes x f l) high ∙ sym (ap (λ (n : ℕ). goes x n l) (if_not_less f cap (f + 1) f high)))

  plain_step_lem : plain_step x l ≡ goes x (raised CEILING x.frequency) l
  plain_step_lem =
      let f = x.frequency in
      by_lt f CEILING
      (λ low. if_less f CEILING (goes x (f + 1) l) (goes x f l) low ∙ sym (ap (λ (n : ℕ). goes x n l) (if_less f CEILING (f + 1) f low)))
      (λ high. if_not_less f CEILING (goes x (f + 1) l) (goes x f l) high ∙ sym (ap (λ (n : ℕ). goes x n l) (if_not_less f CEILING (f + 1) f high)))

-- steps that agree on every key make calls that agree
by_step : (f g : Item → Outcome) (o : Option Item) (l : Ledger) → ((x : Item) → f x ≡ g x) → if_found o (refused Absent, l) f ≡ if_found o (refused Absent, l) g
by_step f g none l e = refl
by_step f g (some x) l e = e x

-- each of the two is the one touch
pub plain_touch_is : (k : ℕ) (l : Ledger) → plain_touch k l ≡ touch CEILING k l
unfolding plain_touch touch
plain_touch_is k l = by_step _ _ (lookup k l) l (λ x. plain_step_lem x l)

pub capped_touch_is : (cap k : ℕ) (l : Ledger) → cap ≤ CEILING → capped_touch cap k l ≡ touch cap k l
unfolding capped_touch touch
capped_touch_is cap k l fits = by_step _ _ (lookup k l) l (λ x. capped_step x l (cap_of cap) (omega arith))

-- At the cap 2^64 - 1 the two give the same answer and the same ledger, for every ledger.
pub old_touches_agree : (k : ℕ) (l : Ledger) → capped_touch CEILING k l ≡ plain_touch k l
old_touches_agree k l = capped_touch_is CEILING k l (omega arith) ∙ sym (plain_touch_is k l)
