-- How a public call keeps its promise: by what the check has answered. Where it lets the call go on, the tables hold a ledger, and the call
-- on sound tables does the rest; else its refusal is the answer, and all stays.
use Rattle.std.proofs.Common.{◌≡◌, refl, sym, ◌∙◌, subst, ℕ, arith, Result, Ok, Err}
use Rattle.numbers.specs.declared.Refusal.{Refusal}
use Rattle.ledger.specs.Buckets.{Reply, refused}
use Rattle.promise.specs.Promise.{Lent, Sound, Does, Tells, Reading, over, short, corrupt, ledger, Reads, Promised, Makes, Answers, checked_of, Checks}

module _ (k : Lent) (t : k.Tables) (s : k.State) (a : Result Unit Refusal) (c : Checks k t s a) where
  -- it goes on: the tables hold a ledger
  pub sound_done : (u : Unit) → a ≡ Ok u → Sound k t s
  sound_done u e = go c.0 c.1 (sym c.2 ∙ e)
    where
      go : (v : Reading k) → Reads k t s v → checked_of k v ≡ Ok u → Sound k t s
      go over r q = let z : ◌≡◌ {A = ℕ} 0 1 = cc in absurd (omega arith)
      go short r q = let z : ◌≡◌ {A = ℕ} 0 1 = cc in absurd (omega arith)
      go corrupt r q = let z : ◌≡◌ {A = ℕ} 0 1 = cc in absurd (omega arith)
      go (ledger l) r q = (l, r.2)

  -- and a call that does what f does on every ledger that the tables hold keeps its promise
  pub promised_done : (f : k.Ledger → Reply × k.Ledger) (r : Reply) (t' : k.Tables) (s' : k.State) (u : Unit) → a ≡ Ok u →
      Does k f t s r t' s' → Promised k f t s r t' s'
  promised_done f r t' s' u e d = go c.0 c.1 (sym c.2 ∙ e)
    where
      go : (v : Reading k) → Reads k t s v → checked_of k v ≡ Ok u → Promised k f t s r t' s'
      go over w q = let z : ◌≡◌ {A = ℕ} 0 1 = cc in absurd (omega arith)
      go short w q = let z : ◌≡◌ {A = ℕ} 0 1 = cc in absurd (omega arith)
      go corrupt w q = let z : ◌≡◌ {A = ℕ} 0 1 = cc in absurd (omega arith)
      go (ledger l) w q = (ledger l, w, d l w.2)

  -- it refuses: that is the answer, and all stays
  pub promised_refused : (f : k.Ledger → Reply × k.Ledger) (r : Reply) (why : Refusal) → a ≡ Err why → r ≡ refused why → Promised k f t s r t s
  promised_refused f r why e told = go c.0 c.1 (sym c.2 ∙ e)
    where
      go : (v : Reading k) → Reads k t s v → checked_of k v ≡ Err why → Promised k f t s r t s
      go over w q = (over, w, record { answer = told ∙ cc; tables = refl; state = refl })
      go short w q = (short, w, record { answer = told ∙ cc; tables = refl; state = refl })
      go corrupt w q = (corrupt, w, record { answer = told ∙ cc; tables = refl; state = refl })
      go (ledger l) w q = let z : ◌≡◌ {A = ℕ} 0 1 = cc in absurd (omega arith)

  -- So for each call of the kind: done on sound tables, told of them, or refused by the check.
  pub makes : (call : k.Call) (r : Reply) (t' : k.Tables) (s' : k.State) (u : Unit) → a ≡ Ok u → Does k (k.calls call) t s r t' s' → Makes k call t s r t' s'
  makes call r t' s' u e d = promised_done (k.calls call) r t' s' u e d

  pub answers : (call : k.Call) → ((l : k.Ledger) → (k.calls call l).1 ≡ l) → (r : Reply) (u : Unit) → a ≡ Ok u → Tells k (k.calls call) t s r → Answers k call t s r
  answers call stays r u e d =
      promised_done (k.calls call) r t s u e
      (λ l h. record { answer = d l h; holds = subst (k.Holds t s) (sym (stays l)) h; leaves = λ why f. (refl, refl) })

  pub refuses : (call : k.Call) (r : Reply) (why : Refusal) → a ≡ Err why → r ≡ refused why → Makes k call t s r t s
  refuses call r why e told = promised_refused (k.calls call) r why e told
