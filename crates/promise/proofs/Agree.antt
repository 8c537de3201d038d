-- A promise leaves no choice: what is read from tables and state is one thing, and two results that a promise allows give the same
-- reply, and either leave everything as it was or hold the same ledger. A kind of tables that holds one ledger at most is all that is asked.
use mathlib.Core.Path.{◌≡◌, refl, sym, ap, ◌∙◌, subst}
use mathlib.Core.Logic.{◌⊎◌, inl, inr}
use Prim.Native.Nat.{ℕ}
use native.Mathlib.Omega.{arith}
use Rattle.std.proofs.Common.{Result, Ok, Err}
use Rattle.numbers.specs.declared.Refusal.{Refusal}
use Rattle.ledger.specs.Buckets.{Reply}
use Rattle.promise.specs.Promise.{Lent, Reading, over, short, corrupt, ledger, Reads, Refuses, By, Promised, checked_of, Checks}
use Rattle.promise.specs.Making.{Sizing, too_large, too_short, fitting, Sizes, measured_of, Measures, MadeBy, Made}

module _ (k : Lent) (one : (t : k.Tables) (s : k.State) (l m : k.Ledger) → k.Holds t s l → k.Holds t s m → l ≡ m) where
  pub reads_one : (t : k.Tables) (s : k.State) (v w : Reading k) → Reads k t s v → Reads k t s w → v ≡ w
  reads_one t s over over p q = refl
  reads_one t s over short p q = absurd (omega arith)
  reads_one t s over corrupt p q = absurd (omega arith)
  reads_one t s over (ledger m) p q = absurd (omega arith)
  reads_one t s short over p q = absurd (omega arith)
  reads_one t s short short p q = refl
  reads_one t s short corrupt p q = absurd (p.1 q.1)
  reads_one t s short (ledger m) p q = absurd (p.1 q.1)
  reads_one t s corrupt over p q = absurd (omega arith)
  reads_one t s corrupt short p q = absurd (q.1 p.1)
  reads_one t s corrupt corrupt p q = refl
  reads_one t s corrupt (ledger m) p q = absurd (p.2 m q.2)
  reads_one t s (ledger l) over p q = absurd (omega arith)
  reads_one t s (ledger l) short p q = absurd (q.1 p.1)
  reads_one t s (ledger l) corrupt p q = absurd (q.2 l p.2)
  reads_one t s (ledger l) (ledger m) p q = ap ledger (one t s l m p.2 q.2)

  -- the same reply; and the same tables and state, or tables and states that hold one ledger
  pub record Agree (r : Reply) (t : k.Tables) (s : k.State) (q : Reply) (u : k.Tables) (z : k.State) : Type 0 where
    pub reply : r ≡ q
    pub after : ((t ≡ u) × (s ≡ z)) ⊎ ((l : k.Ledger) × k.Holds t s l × k.Holds u z l)

  refuses_agree : (t : k.Tables) (s : k.State) (why : Refusal) (r q : Reply) (t' u' : k.Tables) (s' z' : k.State) →
      Refuses k t s r t' s' why → Refuses k t s q u' z' why → Agree r t' s' q u' z'
  refuses_agree t s why r q t' u' s' z' a b =
      record { reply = a.answer ∙ sym b.answer; after = inl (a.tables ∙ sym b.tables, a.state ∙ sym b.state) }

  by_agree : (f : k.Ledger → Reply × k.Ledger) (t : k.Tables) (s : k.State) (v : Reading k) (r q : Reply) (t' u' : k.Tables) (s' z' : k.State) →
      By k f t s r t' s' v → By k f t s q u' z' v → Agree r t' s' q u' z'
  by_agree f t s over r q t' u' s' z' a b = refuses_agree t s _ r q t' u' s' z' a b
  by_agree f t s short r q t' u' s' z' a b = refuses_agree t s _ r q t' u' s' z' a b
  by_agree f t s corrupt r q t' u' s' z' a b = refuses_agree t s _ r q t' u' s' z' a b
  by_agree f t s (ledger l) r q t' u' s' z' a b = record { reply = a.answer ∙ sym b.answer; after = inr ((f l).1, a.holds, b.holds) }

  -- Two results that one promise allows agree.
  pub promised_agree : (f : k.Ledger → Reply × k.Ledger) (t : k.Tables) (s : k.State) (r q : Reply) (t' u' : k.Tables) (s' z' : k.State) →
      Promised k f t s r t' s' → Promised k f t s q u' z' → Agree r t' s' q u' z'
  promised_agree f t s r q t' u' s' z' a b =
      by_agree f t s a.0 r q t' u' s' z' a.2 (subst (By k f t s q u' z') (reads_one t s b.0 a.0 b.1 a.1) b.2)

  -- And two results of making tables.
  sizes_one : (t : k.Tables) (c : ℕ) (v w : Sizing k) → Sizes k t c v → Sizes k t c w → v ≡ w
  sizes_one t c too_large too_large p q = refl
  sizes_one t c too_large too_short p q = absurd (omega arith)
  sizes_one t c too_large fitting p q = absurd (omega arith)
  sizes_one t c too_short too_large p q = absurd (omega arith)
  sizes_one t c too_short too_short p q = refl
  sizes_one t c too_short fitting p q = absurd (p.1 q.1)
  sizes_one t c fitting too_large p q = absurd (omega arith)
  sizes_one t c fitting too_short p q = absurd (q.1 p.1)
  sizes_one t c fitting fitting p q = refl

  -- the same answer; and the same tables, or tables and states that hold one ledger
  pub record MakingsAgree (r : Result k.State Refusal) (t : k.Tables) (q : Result k.State Refusal) (u : k.Tables) : Type 0 where
    pub after : ((why : Refusal) × (r ≡ Err why) × (q ≡ Err why) × (t ≡ u)) ⊎ ((s z : k.State) × (r ≡ Ok s) × (q ≡ Ok z) × ((l : k.Ledger) × k.Holds t s l × k.Holds u z l))

  made_by_agree : (l : k.Ledger) (t : k.Tables) (v : Sizing k) (r q : Result k.State Refusal) (t' u' : k.Tables) →
      MadeBy k l t r t' v → MadeBy k l t q u' v → MakingsAgree r t' q u'
  made_by_agree l t too_large r q t' u' a b = record { after = inl (_, a.0, b.0, a.1 ∙ sym b.1) }
  made_by_agree l t too_short r q t' u' a b = record { after = inl (_, a.0, b.0, a.1 ∙ sym b.1) }
  made_by_agree l t fitting r q t' u' a b = record { after = inr (a.0, b.0, a.1, b.1, (l, a.2, b.2)) }

  pub made_agree : (l : k.Ledger) (c : ℕ) (t : k.Tables) (r q : Result k.State Refusal) (t' u' : k.Tables) →
      Made k l c t r t' → Made k l c t q u' → MakingsAgree r t' q u'
  made_agree l c t r q t' u' a b =
      made_by_agree l t a.0 r q t' u' a.2 (subst (MadeBy k l t q u') (sizes_one t c b.0 a.0 b.1 a.1) b.2)

  -- And what a check of the tables, or a look at their lengths, answers.
  pub checks_agree : (t : k.Tables) (s : k.State) (a b : Result Unit Refusal) → Checks k t s a → Checks k t s b → a ≡ b
  checks_agree t s a b c d = c.2 ∙ ap (checked_of k) (reads_one t s c.0 d.0 c.1 d.1) ∙ sym d.2

  pub measures_agree : (t : k.Tables) (c : ℕ) (a b : Result Unit Refusal) → Measures k t c a → Measures k t c b → a ≡ b
  measures_agree t c a b m n = m.2 ∙ ap (measured_of k) (sizes_one t c m.0 n.0 m.1 n.1) ∙ sym n.2
