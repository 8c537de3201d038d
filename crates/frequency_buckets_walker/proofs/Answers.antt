-- The walker's start and step: what the plain walk answers, as far as the slot goes, and the place that goes with the answer. A step answers
-- only bound slots since links lead only to such.
use mathlib.Core.Path.{◌≡◌, refl, sym, ap, ◌∙◌, subst}
use Rattle.std.proofs.Common.{Result, Ok, Err, Option, Some, None}
use mathlib.Core.List.{List, [], ◌∷◌}
use Prim.Native.Nat.{ℕ}
use Rattle.numbers.specs.declared.Refusal.{Refusal}
use Rattle.numbers.specs.declared.Slot.{Slot}
use Rattle.answers.specs.declared.Guest.{Guest}
use Rattle.ledger.specs.Ledger.{Ledger}
use Rattle.ledger.specs.Buckets.{Reply, done, refused}
use Rattle.ledger.specs.BucketCalls.{asks, WalkStart}
use Rattle.ledger.specs.Walk as ledger
use Rattle.promise.specs.Promise.{Checks}
use Rattle.promise.proofs.Promises.{promised_done, promised_refused}
use Rattle.buckets_tables.specs.declared.State.{State}
use Rattle.buckets_tables.specs.Tables.{Tables}
use Rattle.buckets_tables.specs.Lent as lent
use Rattle.answers.specs.Replies.{step_reply, reached_reply}
use Rattle.buckets_walk.specs.Walks.{slot_of, Leads, OfStart}
use Rattle.buckets_walk.proofs.Walking.{leads_bound}
use Rattle.frequency_buckets_walker.specs.declared.Stand.{Stand}
use Rattle.frequency_buckets_walker.specs.Stands.{of_step, stand_of}
use Rattle.frequency_buckets_walker.specs.Walks.{shows, Reaches, Stands, Steps, Onward}

-- a walker stands by its answer
pub stands_by : (t : Tables) (s : State) (walk : Ledger → ledger.Step) (a : Result (Option Slot) Refusal) (r : Stand) → r ≡ stand_of a → Reaches t s walk a → Stands t s walk r
stands_by t s walk a r e p = rw e (record { promised = p; stands = refl })

-- a reply cut off after its first number
abbrev cut : Reply → Reply
cut (done []) = done []
cut (done (n ∷ ns)) = done (n ∷ [])
cut (refused a) = refused a

cut_step : (st : Result (Option Guest) Refusal) → reached_reply (of_step st) ≡ cut (step_reply st)
cut_step (Ok (Some g)) = refl
cut_step (Ok None) = refl
cut_step (Err a) = refl

cut_shown : (st : ledger.Step) → cut (ledger.step_reply st) ≡ reached_reply (slot_of st)
cut_shown (ledger.here x) = refl
cut_shown ledger.no_more = refl
cut_shown ledger.absent = refl

-- `head`

module _ (t : Tables) (s : State) (g : ℕ) (a : Result Unit Refusal) (c : Checks lent.buckets t s a) where
  pub head_refused : (why : Refusal) → a ≡ Err why → (q : Result (Option Slot) Refusal) → reached_reply q ≡ refused why → Reaches t s (ledger.start g) q
  head_refused why e q told = promised_refused lent.buckets t s a c (λ l. shows (ledger.start g l) l) (reached_reply q) why e told

  pub head_done : (u : Unit) → a ≡ Ok u → (st : Result (Option Guest) Refusal) → OfStart t.keys t.epochs t.buckets s (asks (WalkStart g)) (step_reply st) →
      (q : Result (Option Slot) Refusal) → q ≡ of_step st → Reaches t s (ledger.start g) q
  unfolding asks
  head_done u d st o q eq =
      promised_done lent.buckets t s a c (λ l. shows (ledger.start g l) l) (reached_reply q) t s u d (λ l h. record {
        answer = ap reached_reply eq ∙ cut_step st ∙ ap cut (o t.freqs t.prevs t.nexts t.arena t.index t.spares l h) ∙ cut_shown (ledger.start g l);
        holds = h;
        leaves = λ z y. (refl, refl);
      })

-- `onward`

pub onward_so : (n : List ℕ) (at r : Stand) → Steps n at r → Onward n at r
onward_so n at r w = record {
  steps = w;
  bound = λ x e. leads_bound n at.slot.0 x (subst (Leads n at.slot.0) (sym (ap (λ (q : Stand). q.answer) w.stands) ∙ e) w.leads);
}
