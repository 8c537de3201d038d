-- Document 01's answer for each answer of the code: DONE with its values, or a refusal.
use Rattle.std.specs.Prelude.{Bool, [], ◌∷◌, List, ℕ, Option, Some, None, Result, Ok, Err}
use Rattle.numbers.specs.declared.Key.{Key}
use Rattle.numbers.specs.declared.Slot.{Slot}
use Rattle.numbers.specs.declared.Frequency.{Frequency}
use Rattle.numbers.specs.declared.Refusal.{Refusal}
use Rattle.ledger.specs.Buckets.{Reply, done, refused, yes_no}
use Rattle.answers.specs.declared.Guest.{Guest}
use Rattle.answers.specs.declared.Insertion.{Insertion}
use Rattle.answers.specs.declared.Insertion.TheVariants.{New, NewOut, Old}

-- DONE with the values of an answer, or a refusal
abbrev pub reply : {A : Type 0} → (values : A → List ℕ) → Result A Refusal → Reply
reply values (Ok a) = done (values a)
reply values (Err why) = refused why

-- DONE with no value
abbrev pub plain_reply : Result Unit Refusal → Reply
plain_reply r = reply (λ u. []) r

-- DONE with 1 for yes and 0 for no
abbrev pub yes_reply : Result Bool Refusal → Reply
yes_reply r = reply (λ b. yes_no b ∷ []) r

-- DONE with one number: a count, an epoch or a value
abbrev pub number_reply : Result ℕ Refusal → Reply
number_reply r = reply (λ n. n ∷ []) r

-- DONE with a frequency
abbrev pub level_reply : Result Frequency Refusal → Reply
level_reply r = reply (λ f. f.0 ∷ []) r

-- DONE with a key and its frequency
abbrev pub least_reply : Result (Key × Frequency) Refusal → Reply
least_reply r = reply (λ p. p.0.0 ∷ p.1.0 ∷ []) r

-- DONE with a key and its value
abbrev pub least_used_reply : Result (Key × ℕ) Refusal → Reply
least_used_reply r = reply (λ p. p.0.0 ∷ p.1 ∷ []) r

-- slot, key, frequency and epoch; nothing where there is no more
abbrev pub guest_values : Option Guest → List ℕ
guest_values (Some g) = g.slot.0 ∷ g.key.0 ∷ g.frequency.0 ∷ g.epoch ∷ []
guest_values None = []

-- DONE with what stands at a slot, or with no more
abbrev pub step_reply : Result (Option Guest) Refusal → Reply
step_reply r = reply guest_values r

abbrev pub slot_values : Option Slot → List ℕ
slot_values (Some x) = x.0 ∷ []
slot_values None = []

-- DONE with the slot, or with no more
abbrev pub reached_reply : Result (Option Slot) Refusal → Reply
reached_reply r = reply slot_values r

-- one of three ways, which the first number tells apart as the ledger's reply does
abbrev pub insertion_values : Insertion → List ℕ
insertion_values New = 0 ∷ []
insertion_values (NewOut k) = 1 ∷ k.0 ∷ []
insertion_values (Old v) = 2 ∷ v ∷ []

abbrev pub insertion_reply : Result Insertion Refusal → Reply
insertion_reply r = reply insertion_values r
