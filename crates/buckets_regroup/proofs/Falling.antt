-- The tail of a level falls: out by the law of `leave`, and in again at the place above the levels that are done (Tops.antt).
use mathlib.Core.Path.{◌≡◌, sym, ap, ◌∙◌, subst}
use mathlib.Core.Logic.{◌≢◌}
use mathlib.Core.List.{List, [], ◌∷◌, ◌++◌, append-nil}
use Prim.Native.Nat.{ℕ, ◌<◌, ◌≤◌}
use native.Mathlib.Omega.{arith}
use Rattle.numbers.specs.Frequency.{CEILING}
use Rattle.lists.specs.Lists.{All}
use Rattle.lists.proofs.Members.{all_map, in_mid}
use Rattle.bucket_table.specs.declared.Buckets.{Buckets}
use Rattle.bucket_table.specs.Records.{frequency, InTable}
use Rattle.levels.specs.Levels.{Level, level, Nowhere, keep, join}
use Rattle.levels.specs.Held.{Tabs, Held}
use Rattle.levels.specs.Calls.{SlotBound, Leaving, Ready, LevelLeaves, LevelEnters}
use Rattle.levels.proofs.Leave.{bound_fits, bound_record_in}
use Rattle.levels.proofs.Calls.{held_order, keep_append, parted_held}
use Rattle.buckets_regroup.specs.Falls.{under, Reachable, place_above, Falling, Falls}
use Rattle.buckets_regroup.proofs.Changes.{Lowers}
use Rattle.buckets_regroup.proofs.Settled.{under_is}
use Rattle.buckets_regroup.proofs.Tops.{slot_frequency, top_reachable, Placed, placed}

-- what is left of a level, and the levels above it
pub keep_above : (P : Level → Type 0) (f : ℕ) (xs : List ℕ) (vs : List Level) → P (level f xs) → All P vs → All P (keep f xs vs)
keep_above P f [] vs p h = h
keep_above P f (x ∷ xs) vs p h = (p, h)

module _ (g : ℕ → ℕ) (t : Tabs) (s : Buckets) (r x last : ℕ) where
  module _ (q : Falling g t s r x last) where
    -- the level as one among others
    pub falling_held : Held t s (under q.lower [] ++ level q.freq (q.others ++ x ∷ []) ∷ q.upper)
    falling_held = subst (Held t s) (under_is q.lower (level q.freq (q.others ++ x ∷ []) ∷ q.upper)) q.held

    pub falling_bound : SlotBound t s x
    falling_bound = record { us = under q.lower []; freq = q.freq; xs = q.others; ys = []; vs = q.upper; held = falling_held }

    pub falling_leaves : Leaving t s r x
    falling_leaves = record { bound = falling_bound; number = q.number }

    pub falling_record : InTable t.buckets r
    falling_record = bound_record_in t s x falling_bound r q.number

    -- its frequency is what is read of its record
    pub falling_frequency : frequency t.buckets r ≡ q.freq
    falling_frequency =
        ap (frequency t.buckets) q.number
        ∙ slot_frequency t s (under q.lower []) (level q.freq (q.others ++ x ∷ [])) q.upper x (in_mid q.others x []) falling_held

    pub falling_order : (1 ≤ q.freq) × (q.freq ≤ CEILING) × All (λ l. q.freq < l.freq) q.upper
    falling_order = let o = held_order t s (under q.lower []) q.freq (q.others ++ x ∷ []) q.upper falling_held in (o.1, o.2, o.3)

  -- the new frequency h, from the one that is read
  module _ (fr : ℕ) (ef : fr ≡ frequency t.buckets r) (h : ℕ) (e : h ≡ g fr) where
    old_is : (q : Falling g t s r x last) → fr ≡ q.freq
    old_is q = ef ∙ falling_frequency q

    new_is : (q : Falling g t s r x last) → h ≡ g q.freq
    new_is q = e ∙ ap g (old_is q)

    -- it is the old one
    pub falls_not : h ≡ fr → Falls g t s r x last t s
    falls_not same = record {
      falls = λ q l. absurd (let a = old_is q in let b = new_is q in omega arith);
      stays = λ q _. q.held;
    }

    -- it is another
    module _ (low : Lowers g) (ne : h ≢ fr) (t₁ : Tabs) (at₁ : ℕ) (s₁ : Buckets) (lv : LevelLeaves t s x t₁ at₁ s₁) where
      module _ (q : Falling g t s r x last) where
        abbrev rest : List Level
        rest = keep q.freq q.others q.upper

        -- what is left without the slot
        rest_is : (under q.lower [] ++ keep q.freq (q.others ++ []) []) ++ q.upper ≡ under q.lower rest
        rest_is =
            keep_append (under q.lower []) q.freq (q.others ++ []) q.upper
            ∙ ap (λ (zs : List ℕ). under q.lower [] ++ keep q.freq zs q.upper) (append-nil q.others) ∙ sym (under_is q.lower rest)

        rest_held : Held t₁ s₁ (under q.lower rest)
        rest_held =
            subst (Held t₁ s₁) rest_is
            (parted_held t₁ s₁ at₁ (under q.lower [] ++ keep q.freq (q.others ++ []) []) q.upper
            (lv.holds (under q.lower []) q.freq q.others [] q.upper (falling_held q)))

        rest_away : Nowhere x (under q.lower rest)
        rest_away = subst (Nowhere x) rest_is (lv.gone (under q.lower []) q.freq q.others [] q.upper (falling_held q))

        lower : h < q.freq
        lower = let a = low.less q.freq (falling_order q).0 in let b = new_is q in let c = old_is q in omega arith

        rest_above : All (λ l. h < l.freq) rest
        rest_above =
            let a = lower in
            keep_above (λ l. h < l.freq) q.freq q.others q.upper a
            (all_map (λ l. q.freq < l.freq) (λ l. h < l.freq) (λ l b. omega arith) q.upper (falling_order q).2)

        pub left_reachable : Reachable t₁.buckets last
        left_reachable = top_reachable t₁ s₁ q.lower rest last q.top rest_held

        -- where the slot enters
        place : Placed t₁ s₁ (place_above t₁.buckets last h) h q.lower rest
        place = let b = new_is q in let c = q.low in placed t₁ s₁ h rest rest_above q.lower last q.top (omega arith) rest_held

        place_away : Nowhere x (place.us ++ place.ws)
        place_away = subst (Nowhere x) (sym place.whole) rest_away

        pub left_ready : (at : ℕ) → at ≡ place_above t₁.buckets last h → Ready t₁ s₁ at x
        left_ready at ea = record {
          us = place.us;
          vs = place.ws;
          parted = rw ea place.parted;
          slot = let l = (bound_fits t s x (falling_bound q)).1 in let z = lv.size in omega arith;
          away = place_away;
        }

        falls_to : (t' : Tabs) (s' : Buckets) → LevelEnters t₁ s₁ (place_above t₁.buckets last h) h x t' s'
            → Held t' s' (under (join x h q.lower) rest)
        falls_to t' s' en =
            let a = lower in let b = new_is q in let c = (falling_order q).1 in let d = low.some q.freq in
            subst (Held t' s') (place.joins x)
            (en.holds place.us place.ws (omega arith) (omega arith) place.below place.from place_away place.parted)

      pub falls_in : (at : ℕ) → at ≡ place_above t₁.buckets last h → (t' : Tabs) (s' : Buckets) → LevelEnters t₁ s₁ at h x t' s'
          → Falls g t s r x last t' s'
      falls_in at ea t' s' en = record {
        falls = λ q l. rw (← new_is q) (falls_to q t' s' (rw ea at en));
        stays = λ q same. absurd (let a = lower q in let b = new_is q in omega arith);
      }
