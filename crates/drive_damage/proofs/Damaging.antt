-- Damage by the number of a table or a field: each arm of the code knows its number, and the list that goes by numbers computes there. A
-- number of no arm is past the list.
use mathlib.Core.Path.{◌≡◌, refl, sym, ◌∙◌, ap, subst}
use mathlib.Core.List.{List, []}
use Prim.Native.Nat.{ℕ, suc, ◌/◌, ◌%◌, ◌≤◌, ◌<◌}
use native.Mathlib.Omega.{arith}
use lib.Arith.{lt_of_le-ne}
use lib.ListN.{set, get_or-eq_default}
use lib.Seq.{set-get_or}
use Rattle.buckets_tables.specs.declared.State.{State}
use Rattle.cache_tables.specs.Tables.{CacheTables}
use Rattle.trace.specs.declared.Word.{Word}
use Rattle.trace.specs.declared.Word.TheVariants.{Okay, Bad}
use Rattle.drive_damage.specs.Damage.{PLACES, Puts, listed, named, Stores, Damages, fields, Alters}

-- One more number that it is not

up : (n j : ℕ) → n ≤ j → (j ≡ n → ⊥) → suc n ≤ j
up n j h f = lt_of_le-ne h (λ q. f (sym q))

pub none_of_ten : (j : ℕ) → (j ≡ 0 → ⊥) → (j ≡ 1 → ⊥) → (j ≡ 2 → ⊥) → (j ≡ 3 → ⊥) → (j ≡ 4 → ⊥) → (j ≡ 5 → ⊥) → (j ≡ 6 → ⊥) → (j ≡ 7 → ⊥) →
    (j ≡ 8 → ⊥) → (j ≡ 9 → ⊥) → 10 ≤ j
none_of_ten j n0 n1 n2 n3 n4 n5 n6 n7 n8 n9 =
    up 9 j (up 8 j (up 7 j (up 6 j (up 5 j (up 4 j (up 3 j (up 2 j (up 1 j (up 0 j (omega arith) n0) n1) n2) n3) n4) n5) n6) n7) n8) n9

-- Tables

module _ (a b : ℕ) (t : CacheTables) (w : Word) (t' : CacheTables) where
  pub damaged : (j : ℕ) (xs : List ℕ) → a / PLACES ≡ j → Puts (a % PLACES) b (named j t) w xs → listed t' ≡ set (listed t) j xs → Damages a b t w t'
  damaged j xs e p q = subst (λ (i : ℕ). Stores i (a % PLACES) b t w t') (sym e) (record {
    inside = λ h. ((p.inside h).0, q ∙ ap (set (listed t) j) (p.inside h).1);
    outside = λ h. ((p.outside h).0, q ∙ ap (set (listed t) j) (p.outside h).1 ∙ set-get_or (listed t) j []);
  })

-- past the last table there is no place
pub damaged_none : (a b : ℕ) (t : CacheTables) → 10 ≤ a / PLACES → Damages a b t Bad t
damaged_none a b t h =
    let none : named (a / PLACES) t ≡ [] = get_or-eq_default (listed t) [] h in
    record {
      inside = λ p. absurd (omega (arith, rw none at p));
      outside = λ p. (refl, refl);
    }

-- Fields

pub altered : (a b : ℕ) (s s' : State) (j : ℕ) → a ≡ j → j < 10 → fields s' ≡ set (fields s) j b → Alters a b s Okay s'
altered a b s s' j e h q = record {
  inside = λ p. (refl, q ∙ ap (λ (i : ℕ). set (fields s) i b) (sym e));
  outside = λ p. absurd (omega arith);
}

pub altered_none : (a b : ℕ) (s : State) → 10 ≤ a → Alters a b s Bad s
altered_none a b s h = record { inside = λ p. absurd (omega arith); outside = λ p. (refl, refl) }
