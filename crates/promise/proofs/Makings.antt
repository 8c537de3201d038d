-- How a call that makes tables keeps its promise: by what a look at the lengths has answered. For the buckets and for the cache alike.
use Rattle.std.proofs.Common.{◌≡◌, refl, sym, ◌∙◌, ℕ, ◌≤◌, arith, Result, Ok, Err}
use Rattle.numbers.specs.Marks.{LIMIT}
use Rattle.numbers.specs.declared.Refusal.{Refusal}
use Rattle.promise.specs.Promise.{Lent, over, short, Checks}
use Rattle.promise.specs.Making.{Sizing, too_large, too_short, fitting, Sizes, measured_of, Measures, Made}

module _ (k : Lent) (t : k.Tables) (c : ℕ) (a : Result Unit Refusal) (m : Measures k t c a) where
  pub fits_done : (u : Unit) → a ≡ Ok u → (c ≤ LIMIT) × k.Fits t c
  fits_done u e = go m.0 m.1 (sym m.2 ∙ e)
    where
      go : (v : Sizing k) → Sizes k t c v → measured_of k v ≡ Ok u → (c ≤ LIMIT) × k.Fits t c
      go too_large w q = let z : ◌≡◌ {A = ℕ} 0 1 = cc in absurd (omega arith)
      go too_short w q = let z : ◌≡◌ {A = ℕ} 0 1 = cc in absurd (omega arith)
      go fitting w q = w

  pub made_done : (l : k.Ledger) (t' : k.Tables) (s' : k.State) (u : Unit) → a ≡ Ok u → k.Holds t' s' l → Made k l c t (Ok s') t'
  made_done l t' s' u e h = (fitting, fits_done u e, (s', refl, h))

  pub made_refused : (l : k.Ledger) (r : Result k.State Refusal) (why : Refusal) → a ≡ Err why → r ≡ Err why → Made k l c t r t
  made_refused l r why e told = go m.0 m.1 (sym m.2 ∙ e)
    where
      go : (v : Sizing k) → Sizes k t c v → measured_of k v ≡ Err why → Made k l c t r t
      go too_large w q = (too_large, w, (told ∙ cc, refl))
      go too_short w q = (too_short, w, (told ∙ cc, refl))
      go fitting w q = let z : ◌≡◌ {A = ℕ} 0 1 = cc in absurd (omega arith)

-- Lengths that do not fit the state's own capacity are a refusal of any call.
module _ (k : Lent) (t : k.Tables) (s : k.State) (a : Result Unit Refusal) (m : Measures k t (k.capacity s) a) where
  pub misfits : (why : Refusal) → a ≡ Err why → Checks k t s a
  misfits why e = go m.0 m.1 m.2 (sym m.2 ∙ e)
    where
      go : (v : Sizing k) → Sizes k t (k.capacity s) v → a ≡ measured_of k v → measured_of k v ≡ Err why → Checks k t s a
      go too_large w q f = (over, w, q)
      go too_short w q f = (short, w, q)
      go fitting w q f = let z : ◌≡◌ {A = ℕ} 0 1 = cc in absurd (omega arith)
