-- The walker's promises leave no choice: two stands that one of them allows are equal. What carries it: one promise allows one reply, a reply
-- is that of one answer, and a stand is that of its answer.
use mathlib.Core.Path.{◌≡◌, sym, ap, ◌∙◌}
use mathlib.Core.List.{List}
use Prim.Native.Nat.{ℕ}
use Rattle.ledger.specs.Ledger.{Ledger}
use Rattle.ledger.specs.Walk as ledger
use Rattle.ledger.specs.Walk.{list_of, start}
use Rattle.promise.proofs.Agree.{promised_agree}
use Rattle.buckets_tables.specs.declared.State.{State}
use Rattle.buckets_tables.specs.Tables.{Tables}
use Rattle.buckets_tables.specs.Lent as lent
use Rattle.buckets_tables.proofs.Read.{holds_one}
use Rattle.answers.specs.Replies.{reached_reply}
use Rattle.answers.proofs.Injective.{reached_injective}
use Rattle.buckets_walk.proofs.Walking.{leads_agree}
use Rattle.frequency_buckets_walker.specs.declared.Stand.{Stand}
use Rattle.frequency_buckets_walker.specs.Stands.{stand_of}
use Rattle.frequency_buckets_walker.specs.Walks.{shows, Stands, Starts, Steps, nth_of, Nth}

module _ (t : Tables) (s : State) where
  stands_agree : (walk : Ledger → ledger.Step) (r q : Stand) → Stands t s walk r → Stands t s walk q → r ≡ q
  stands_agree walk r q a b =
      let same = (promised_agree lent.buckets holds_one (λ l. shows (walk l) l) t s (reached_reply r.answer) (reached_reply q.answer) t t s s a.promised b.promised).reply in
      a.stands ∙ ap stand_of (reached_injective r.answer q.answer same) ∙ sym b.stands

  -- the start
  pub starts_agree : (g : ℕ) (r q : Stand) → Starts t s g r → Starts t s g q → r ≡ q
  starts_agree g r q a b = stands_agree (start g) r q a b

  -- and the walk after n steps
  pub nth_agree : (g n : ℕ) (r q : Stand) → Nth t s g n r → Nth t s g n q → r ≡ q
  nth_agree g n r q a b = stands_agree (λ l. nth_of (list_of g l.levels) n) r q a b

-- a step
pub steps_agree : (n : List ℕ) (at r q : Stand) → Steps n at r → Steps n at q → r ≡ q
steps_agree n at r q a b =
    a.stands ∙ ap stand_of (leads_agree n at.slot.0 a.after b.after a.leads b.leads) ∙ sym b.stands
