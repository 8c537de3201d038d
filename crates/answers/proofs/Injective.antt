-- Each answer of the code has a reply of its own: where two replies are equal, the answers are. So what is shown of replies, that two
-- results of one promise give the same, is so of what the code returns.
use Rattle.std.proofs.Common.{◌≡◌, refl, sym, ap, ◌∙◌, ℕ, Bool, true, false, List, [], ◌∷◌, Option, Some, None, Result, Ok, Err, arith}
use Rattle.numbers.specs.declared.Key.{Key}
use Rattle.numbers.specs.declared.Slot.{Slot}
use Rattle.numbers.specs.declared.Frequency.{Frequency}
use Rattle.numbers.specs.declared.Refusal.{Refusal}
use Rattle.ledger.specs.Buckets.{yes_no}
use Rattle.answers.specs.declared.Guest.{Guest}
use Rattle.answers.specs.declared.Insertion.{Insertion}
use Rattle.answers.specs.declared.Insertion.TheVariants.{New, NewOut, Old}
use Rattle.answers.specs.Replies.{reply, plain_reply, yes_reply, number_reply, level_reply, least_reply, least_used_reply, guest_values, step_reply, slot_values, reached_reply, insertion_values, insertion_reply}

never : {A : Type 0} → ◌≡◌ {A = ℕ} 0 1 → A
never e = absurd (omega arith)

-- kinds of number
key_is : (a b : Key) → a.0 ≡ b.0 → a ≡ b
key_is a b e = λ i. record { 0 = e i }

slot_is : (a b : Slot) → a.0 ≡ b.0 → a ≡ b
slot_is a b e = λ i. record { 0 = e i }

frequency_is : (a b : Frequency) → a.0 ≡ b.0 → a ≡ b
frequency_is a b e = λ i. record { 0 = e i }

-- answers with the same values are the same, and so are answers with the same reply
reply_injective : {A : Type 0} (values : A → List ℕ) → ((a b : A) → values a ≡ values b → a ≡ b) →
    (a b : Result A Refusal) → reply values a ≡ reply values b → a ≡ b
reply_injective values one (Ok a) (Ok b) e = ap Ok (one a b cc)
reply_injective values one (Ok a) (Err w) e = never (cc)
reply_injective values one (Err v) (Ok b) e = never (cc)
reply_injective values one (Err v) (Err w) e = ap Err cc

pub plain_injective : (a b : Result Unit Refusal) → plain_reply a ≡ plain_reply b → a ≡ b
plain_injective a b e = reply_injective (λ u. []) (λ u v q. refl) a b e

one_yes : (a b : Bool) → ◌≡◌ {A = List ℕ} (yes_no a ∷ []) (yes_no b ∷ []) → a ≡ b
one_yes true true e = refl
one_yes true false e = never (sym (cc))
one_yes false true e = never (cc)
one_yes false false e = refl

pub yes_injective : (a b : Result Bool Refusal) → yes_reply a ≡ yes_reply b → a ≡ b
yes_injective a b e = reply_injective _ one_yes a b e

pub number_injective : (a b : Result ℕ Refusal) → number_reply a ≡ number_reply b → a ≡ b
number_injective a b e = reply_injective (λ n. n ∷ []) (λ m n q. cc) a b e

pub level_injective : (a b : Result Frequency Refusal) → level_reply a ≡ level_reply b → a ≡ b
level_injective a b e = reply_injective (λ f. f.0 ∷ []) (λ f g q. frequency_is f g (cc)) a b e

pub least_injective : (a b : Result (Key × Frequency) Refusal) → least_reply a ≡ least_reply b → a ≡ b
least_injective a b e =
    reply_injective (λ p. p.0.0 ∷ p.1.0 ∷ []) (λ p q w. let k = key_is p.0 q.0 (cc) in let f = frequency_is p.1 q.1 (cc) in λ i. (k i, f i)) a b e

pub least_used_injective : (a b : Result (Key × ℕ) Refusal) → least_used_reply a ≡ least_used_reply b → a ≡ b
least_used_injective a b e =
    reply_injective (λ p. p.0.0 ∷ p.1 ∷ []) (λ p q w. let k = key_is p.0 q.0 (cc) in let v : p.1 ≡ q.1 = cc in λ i. (k i, v i)) a b e

one_guest : (a b : Option Guest) → guest_values a ≡ guest_values b → a ≡ b
one_guest (Some g) (Some h) e =
    let x = slot_is g.slot h.slot (cc) in
    let k = key_is g.key h.key (cc) in
    let f = frequency_is g.frequency h.frequency (cc) in
    let n : g.epoch ≡ h.epoch = cc in
    λ i. Some (record { slot = x i; key = k i; frequency = f i; epoch = n i })
one_guest (Some g) None e = never (cc)
one_guest None (Some h) e = never (cc)
one_guest None None e = refl

pub step_injective : (a b : Result (Option Guest) Refusal) → step_reply a ≡ step_reply b → a ≡ b
step_injective a b e = reply_injective guest_values one_guest a b e

one_slot : (a b : Option Slot) → slot_values a ≡ slot_values b → a ≡ b
one_slot (Some x) (Some y) e = ap Some (slot_is x y (cc))
one_slot (Some x) None e = never (cc)
one_slot None (Some y) e = never (cc)
one_slot None None e = refl

pub reached_injective : (a b : Result (Option Slot) Refusal) → reached_reply a ≡ reached_reply b → a ≡ b
reached_injective a b e = reply_injective slot_values one_slot a b e

one_insertion : (a b : Insertion) → insertion_values a ≡ insertion_values b → a ≡ b
one_insertion New New e = refl
one_insertion New (NewOut j) e = never (cc)
one_insertion New (Old w) e = never (cc)
one_insertion (NewOut k) New e = never (cc)
one_insertion (NewOut k) (NewOut j) e = ap NewOut (key_is k j (cc))
one_insertion (NewOut k) (Old w) e = absurd (let z : ◌≡◌ {A = ℕ} 1 2 = cc in omega arith)
one_insertion (Old v) New e = never (cc)
one_insertion (Old v) (NewOut j) e = absurd (let z : ◌≡◌ {A = ℕ} 2 1 = cc in omega arith)
one_insertion (Old v) (Old w) e = ap Old (cc)

pub insertion_injective : (a b : Result Insertion Refusal) → insertion_reply a ≡ insertion_reply b → a ≡ b
insertion_injective a b e = reply_injective insertion_values one_insertion a b e
