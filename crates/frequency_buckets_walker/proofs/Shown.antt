-- The walk of a frequency as its walker shows it: on tables that hold a ledger, from its start on, each step answers the next slot of the
-- ledger's list of that frequency; then comes "no more", and then ABSENT, however often it steps.
use mathlib.Core.Path.{◌≡◌, refl, sym, ap, ◌∙◌}
use mathlib.Core.List.{List, [], ◌∷◌, ◌++◌, append_assoc}
use Prim.Native.Nat.{ℕ, ◌≤◌}
use lib.ListN.{length}
use Rattle.numbers.specs.declared.Refusal.TheVariants.{Absent}
use Rattle.lists.proofs.Tests.{if_not_less}
use Rattle.ledger.specs.Ledger.{Ledger, Item}
use Rattle.ledger.specs.Walk.{Step, list_of, head, start, step}
use Rattle.buckets_tables.specs.declared.State.{State}
use Rattle.buckets_tables.specs.Tables.{tables}
use Rattle.buckets_tables.specs.Holds.{Holds}
use Rattle.std.proofs.Common.{Err}
use Rattle.buckets_walk.specs.Walks.{slot_of, link_at}
use Rattle.frequency_buckets_walker.specs.declared.Stand.{Stand}
use Rattle.frequency_buckets_walker.specs.Stands.{NOWHERE, stand_of}
use Rattle.frequency_buckets_walker.specs.Walks.{Starts, Steps, Shows}
use Rattle.frequency_buckets_walker.proofs.Places.{step_on, step_out, stands_told}

-- Over any links at all, also those of a refused start: once out of range, a walker answers ABSENT for ever.
pub out_for_ever : (n : List ℕ) → length n ≤ NOWHERE → (r q : Stand) → r.slot.0 ≡ NOWHERE → Steps n r q → (q.answer ≡ Err Absent) × (q.slot.0 ≡ NOWHERE)
out_for_ever n small r q j w =
    let led : w.after ≡ Err Absent = w.leads.cell ∙ ap (link_at n) j ∙ if_not_less NOWHERE (length n) _ (Err Absent) small in
    let z : q ≡ stand_of (Err Absent) = w.stands ∙ ap stand_of led in
    (ap (λ (y : Stand). y.answer) z, ap (λ (y : Stand). y.slot.0) z)

module _ (k f e p n a i b sp : List ℕ) (s : State) (l : Ledger) (h : Holds (tables k f e p n a i b sp) s l) where
  -- a step goes where the ledger's step does
  stepped : (r q : Stand) → Steps n r q → (x : ℕ) → r.slot.0 ≡ x → q ≡ stand_of (slot_of (step x l))
  stepped r q w x j = w.stands ∙ ap stand_of (w.leads.steps k f e p a i b sp s l h) ∙ ap (λ (y : ℕ). stand_of (slot_of (step y l))) j

  -- from out of range it is ABSENT, and stays out of range
  pub stays_out : (r q : Stand) → r.slot.0 ≡ NOWHERE → Steps n r q → (q.answer ≡ Err Absent) × (q.slot.0 ≡ NOWHERE)
  stays_out r q j w =
      let z : q ≡ stand_of (Err Absent) = stepped r q w NOWHERE j ∙ ap (λ (st : Step). stand_of (slot_of st)) (step_out l h.formed h.limit 0) in
      (ap (λ (y : Stand). y.answer) z, ap (λ (y : Stand). y.slot.0) z)

  shows_from : (g : ℕ) (ps xs : List Item) → list_of g l.levels ≡ ps ++ xs → (r : Stand) → r ≡ stand_of (slot_of (head xs)) → Shows n r xs
  shows_from g ps [] j r z = (ap (λ (y : Stand). y.answer) z, λ q w. (stays_out r q (ap (λ (y : Stand). y.slot.0) z) w).0)
  shows_from g ps (x ∷ xs) j r z = (
    ap (λ (y : Stand). y.answer) z,
    λ q w.
        shows_from g (ps ++ x ∷ []) xs (j ∙ sym (append_assoc ps (x ∷ []) xs)) q
        (stepped r q w x.slot (ap (λ (y : Stand). y.slot.0) z) ∙ ap (λ (st : Step). stand_of (slot_of st)) (step_on l h.formed h.limit g ps x xs j)),
  )

  -- The walk of a frequency shows exactly the ledger's list.
  pub walker_shows : (g : ℕ) (r : Stand) → Starts (tables k f e p n a i b sp) s g r → Shows n r (list_of g l.levels)
  unfolding start
  walker_shows g r w = shows_from g [] (list_of g l.levels) refl r (stands_told (tables k f e p n a i b sp) s (start g) r l h w)
