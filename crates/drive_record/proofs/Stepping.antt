-- The line of a record in the buffer: a walk writes its own, any other operation what is told of it.
use mathlib.Core.Path.{◌≡◌, refl, subst}
use mathlib.Core.List.{List}
use Prim.Native.Nat.{ℕ}
use native.Mathlib.Omega.{arith}
use Rattle.buckets_tables.specs.declared.State.{State}
use Rattle.buckets_tables.specs.Tables.{Tables}
use Rattle.cache_tables.specs.Tables.{CacheTables}
use Rattle.trace.specs.Written.{Spells}
use Rattle.trace.proofs.Writing.{spells_more}
use Rattle.drive_lines.specs.declared.Told.{Told}
use Rattle.drive_lines.specs.Lines.{text, LONGEST_TOLD}
use Rattle.drive_walk.specs.Walk.{WALK, walk_text, WalkPrints}
use Rattle.drive_record.specs.Operations.{operation_of, Acts}
use Rattle.drive_record.specs.Steps.{DriveSteps}

module _ (code a b : ℕ) (t : CacheTables) (s : State) (out : List ℕ) (at : ℕ) (out' : List ℕ) (r : ℕ) where
  stepped_walk : code ≡ 20 → WalkPrints a t.base s out at out' r → DriveSteps code a b t s out at t s out' r
  stepped_walk e p = record {
    line = walk_text a p.0;
    prints = record { walked = λ z. (p.0, p.1, refl, refl, refl); acted = λ z. absurd (z e) };
    spells = p.2;
  }

  -- the tables that are shown for the walk are those that are lent
  pub stepped_shown : code ≡ 20 → (u : Tables) → u ≡ t.base → WalkPrints a u s out at out' r → DriveSteps code a b t s out at t s out' r
  stepped_shown e u same p = stepped_walk e (subst (λ (x : Tables). WalkPrints a x s out at out' r) same p)

  pub stepped_told : (code ≡ 20 → ⊥) → (told : Told) (t' : CacheTables) (s' : State) → Acts (operation_of code a b) a b t s told t' s' →
      Spells out at (text told) LONGEST_TOLD out' r → DriveSteps code a b t s out at t' s' out' r
  stepped_told n told t' s' d w = record {
    line = text told;
    prints = record { walked = λ z. absurd (n z); acted = λ z. (told, refl, d) };
    spells = spells_more out at (text told) out' r LONGEST_TOLD WALK (omega arith) w;
  }
