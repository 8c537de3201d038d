-- A key takes the slot of another where none is free: the slot that is let go is the only free one then, so that binding takes it.
use mathlib.Core.Path.{◌≡◌, sym, ap, ◌∙◌, subst}
use mathlib.Core.Option.{none}
use mathlib.Core.List.{List, [], ◌∷◌, ◌++◌}
use Prim.Native.Nat.{ℕ}
use native.Mathlib.Omega.{arith}
use Rattle.lists.specs.Lists.{In, one}
use Rattle.lists.proofs.Tests.{one_same}
use Rattle.lists.proofs.Members.{in_sum}
use Rattle.ledger.specs.Ledger.{Ledger, Item, items, lookup, put, release, WellFormed}
use Rattle.ledger.proofs.Changes.{fresh_after, release_formed}
use Rattle.ledger.proofs.Refusals.{unbound_of, of_unbound}
use Rattle.numbers.specs.declared.Slot.{Slot}
use Rattle.slot_arena.specs.Arena.{ArenaHolds}
use Rattle.slot_arena.proofs.Free.{first_slot}
use Rattle.buckets_tables.specs.declared.State.{State}
use Rattle.buckets_tables.specs.Tables.{Tables}
use Rattle.buckets_tables.specs.Holds.{Holds}
use Rattle.buckets_tables.specs.Calls.{Room, Binds, BoundIn, LetsGo}
use Rattle.cache_tables.specs.Steps.{Replaceable, Replaces}

-- an absent key stays absent when an item is let go
still_absent : (l : Ledger) → WellFormed l → (key : ℕ) (y : Item) → In y (items l.levels) → lookup key l ≡ none → lookup key (release y l) ≡ none
still_absent l w key y i e = of_unbound (release y l) (release_formed l w y i) key (fresh_after key y l (unbound_of l w key e))

module _ (t : Tables) (s : State) (l : Ledger) (y : Item) (full : l.free ≡ []) (h : Holds t s (release y l)) where
  -- the slot let go is first, and there is no other
  first_left : s.free.first ≡ y.slot
  first_left =
      (first_slot t.arena s.free y.slot [] (subst (λ (free : List ℕ). ArenaHolds t.arena s.free (free ++ y.slot ∷ [])) full h.free)).0

  only_left : (release y l).free ≡ s.free.first ∷ []
  only_left = ap (λ (free : List ℕ). free ++ y.slot ∷ []) full ∙ (λ i. sym first_left i ∷ [])

module _ (t : Tables) (s : State) (x key : ℕ) where
  pub replace_bound : Replaceable t s x key → BoundIn t s x
  replace_bound r = record {
    ledger = r.ledger;
    holds = r.holds;
    bound = let c = in_sum (λ (z : Item). one z.slot x) (items r.ledger.levels) r.guest r.inside in omega (arith, one_same r.guest.slot x r.slot);
  }

  module _ (t₁ : Tables) (s₁ : State) (gone : LetsGo t s x t₁ s₁) where
    pub replace_room : Replaceable t s x key → Room t₁ s₁ key
    replace_room r =
        let h = gone.holds r.ledger r.guest r.holds r.inside r.slot in
        record {
          ledger = release r.guest r.ledger;
          rest = [];
          holds = h;
          absent = still_absent r.ledger r.holds.formed key r.guest r.inside r.absent;
          free_is = only_left t₁ s₁ r.ledger r.guest r.full h;
        }

    pub replaced : (t₂ : Tables) (z : Slot) (s₂ : State) → Binds t₁ s₁ key t₂ z s₂ → Replaces t s x key t₂ s₂
    replaced t₂ z s₂ binds = record {
      holds = λ l y h i e full absent.
          let k = gone.holds l y h i e in
          subst (λ w. Holds t₂ s₂ (put key w [] (release y l))) (first_left t₁ s₁ l y full k)
          (binds.holds (release y l) [] k (still_absent l h.formed key y i absent) (only_left t₁ s₁ l y full k));
    }
