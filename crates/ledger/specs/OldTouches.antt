-- The two touches of document 01 as it words them, before they became one: what the one call is held to.
use Rattle.std.specs.Prelude.{cond, [], ◌∷◌, ℕ, ◌+◌, ltb}
use Rattle.numbers.specs.Frequency.{CEILING, cap_of}
use Rattle.numbers.specs.declared.Refusal.TheVariants.{Absent}
use Rattle.ledger.specs.Ledger.{Ledger, Item, lookup, if_found, move}
use Rattle.ledger.specs.Buckets.{Outcome, done, refused}

-- the key goes to the head of the list of frequency f, with the current epoch; the answer is f
abbrev pub goes : Item → ℕ → Ledger → Outcome
goes x f l = (done (f ∷ []), move x f l)

-- below the ceiling to the list one higher; at the ceiling the frequency stays, and the key moves to the head of its list
abbrev pub plain_step : Item → Ledger → Outcome
plain_step x l = cond (ltb x.frequency CEILING) (goes x (x.frequency + 1) l) (goes x x.frequency l)

unfoldable pub plain_touch : (key : ℕ) → Ledger → Outcome
plain_touch k l = if_found (lookup k l) (refused Absent, l) (λ x. plain_step x l)

-- a cap of 0 is read as 1; at or above the cap what the plain touch does at the ceiling, else as the plain touch
unfoldable pub capped_touch : (cap key : ℕ) → Ledger → Outcome
capped_touch cap k l =
    if_found (lookup k l) (refused Absent, l) (λ x. cond (ltb x.frequency (cap_of cap)) (plain_step x l) (goes x x.frequency l))
