-- Record by record: what was carried out of the input has printed what stands in the buffer, line by line; and the lengths of the buffers.
use mathlib.Core.Path.{◌≡◌, refl, sym, ◌∙◌, subst}
use mathlib.Core.Bool.{Bool}
use mathlib.Core.List.{List}
use Prim.Native.Nat.{ℕ, ◌+◌, ◌≤◌, ◌<◌, ◌-◌}
use native.Mathlib.Omega.{arith}
use lib.ListN.{length, take, get_or, drop}
use Rattle.numbers.specs.Marks.{LIMIT}
use Rattle.buckets_tables.specs.declared.State.{State}
use Rattle.cache_tables.specs.Tables.{CacheTables}
use Rattle.trace.specs.Output.{RECORD, little, code_of, key_of, value_of}
use Rattle.trace_input.specs.Feeding.{record_at}
use Rattle.trace_input.proofs.Records.{code_read, key_read, value_read}
use Rattle.drive_walk.specs.Walk.{WALK}
use Rattle.drive_record.specs.Steps.{DrivePrints, DriveSteps}
use Rattle.drive.specs.declared.Fed.{Fed}
use Rattle.drive.specs.declared.Turned.{Turned}
use Rattle.drive.specs.Turns.{LAST, Serves, begins, goes_on, DriveFeeds, DriveTurns, DriveBuffers, DRIVE_PART}

-- the lengths of the input buffer and of the output buffer
abbrev pub LARGE : ℕ
LARGE = 65536

abbrev pub ROOM : ℕ
ROOM = 524288

-- The records that are carried out

pub record Feeding (input : List ℕ) (from end : ℕ) (items₀ out₀ : List ℕ) (t : CacheTables) (s : State) (items : List ℕ) (t' : CacheTables) (s' : State) (out : List ℕ) (at next : ℕ) : Type 0 where
  pub begun : next ≤ end
  pub forward : from ≤ next
  pub moved : LAST < at → from < next
  pub places : length items ≡ length items₀
  pub long : length out ≡ length out₀
  pub room : at ≤ LAST + WALK
  pub served : Serves input from t s next (take at out) t' s'

module _ (input : List ℕ) (from end : ℕ) (items₀ out₀ : List ℕ) (t : CacheTables) (s : State) where
  pub feeding_start : from ≤ end → Feeding input from end items₀ out₀ t s items₀ t s out₀ 0 from
  feeding_start h = record { begun = h; forward = omega arith; moved = λ z. absurd (omega arith); places = refl; long = refl; room = omega arith; served = begins }

  module _ (items : List ℕ) (t' : CacheTables) (s' : State) (out : List ℕ) (at next : ℕ) (so_far : Feeding input from end items₀ out₀ t s items t' s' out at next) where
    -- there is room for one more line
    pub feeding_room : at ≤ LAST → LAST + WALK ≤ length out₀ → at + WALK ≤ length out
    feeding_room early wide = let long = so_far.long in omega arith

    pub feeding_more : next + RECORD ≤ end → at ≤ LAST → (code a b : ℕ) → code ≡ get_or input next 0 → a ≡ little (take 8 (drop (next + 1) input)) →
        b ≡ little (take 8 (drop (next + 9) input)) → (items' : List ℕ) (t'' : CacheTables) (s'' : State) (out' : List ℕ) (r : ℕ) →
        DriveSteps code a b t' s' out at t'' s'' out' r → length items' ≡ length items → length out' ≡ length out →
        Feeding input from end items₀ out₀ t s items' t'' s'' out' r (next + RECORD)
    feeding_more more early code a b e₁ e₂ e₃ items' t'' s'' out' r steps places long =
        let prints : DrivePrints (code_of (record_at input next)) (key_of (record_at input next)) (value_of (record_at input next)) t' s' steps.line t'' s'' =
        rw (sym (e₁ ∙ code_read input next), sym (e₂ ∙ key_read input next), sym (e₃ ∙ value_read input next)) steps.prints in
        record {
          begun = more;
          forward = let before = so_far.forward in omega arith;
          moved = λ z. let before = so_far.forward in omega arith;
          places = places ∙ so_far.places;
          long = long ∙ so_far.long;
          room = let short = steps.spells.short in omega arith;
          served =
              subst (λ (l : List ℕ). Serves input from t s (next + RECORD) l t'' s'') (sym steps.spells.writes.written)
              (goes_on next (take at out) t' s' so_far.served steps.line t'' s'' prints);
        }

    -- it ends where no room or no whole record is left, and either way it has gone on
    pub left_none : end - next < RECORD → from + RECORD ≤ end → from < next
    left_none less more = omega arith

    pub feeding_end : LAST + WALK ≤ length out₀ → (from + RECORD ≤ end → from < next) → DriveFeeds input from end t s t' s' out (record { at = at; next = next })
    feeding_end wide goes = record {
      inside = so_far.begun;
      goes = goes;
      room = let room = so_far.room in let long = so_far.long in omega arith;
      served = so_far.served;
    }

-- Turns

module _ (items input : List ℕ) (from end : ℕ) (out : List ℕ) (b : DriveBuffers items input from end out) (t : CacheTables) (s : State) where
  -- less than a record was left: nothing is carried out
  pub turned_waits : end - from < RECORD → (input' : List ℕ) → length input' ≡ length input → (r : Turned) → (r.next ≤ r.end) × (r.end ≤ DRIVE_PART) →
      DriveTurns input from end t s items input' t s out r
  turned_waits little input' kept r ends = record {
    buffers = record { places = b.places; begun = ends.0; part = ends.1; reads = let wide = b.reads in omega arith; prints = b.prints };
    goes = λ more. absurd (omega arith);
    served = λ more. absurd (omega arith);
    waits = λ less. (refl, refl);
  }

  pub turned_served : from + RECORD ≤ end → (items' : List ℕ) (t' : CacheTables) (s' : State) (out' : List ℕ) (fed : Fed) (written : Bool) → DriveFeeds input from end t s t' s' out' fed →
      length items' ≡ length items → length out' ≡ length out →
      DriveTurns input from end t s items' input t' s' out' (record { more = written; at = fed.at; end = end; next = fed.next })
  turned_served more items' t' s' out' fed written feeds places long = record {
    buffers = record { places = places ∙ b.places; begun = feeds.inside; part = b.part; reads = b.reads; prints = let wide = b.prints in omega arith };
    goes = feeds.goes;
    served = λ z. feeds.served;
    waits = λ less. absurd (omega arith);
  }

-- from turn to turn the buffers keep their lengths
pub record Running (items input : List ℕ) (next end : ℕ) (out : List ℕ) : Type 0 where
  pub buffers : DriveBuffers items input next end out
  pub input_size : LARGE ≡ length input
  pub out_size : ROOM ≡ length out

pub running_start : (items input out : List ℕ) → length items ≡ LIMIT → LARGE ≡ length input → ROOM ≡ length out → Running items input DRIVE_PART DRIVE_PART out
running_start items input out places large room = record {
  buffers = record { places = places; begun = omega arith; part = omega arith; reads = omega arith; prints = omega arith };
  input_size = large;
  out_size = room;
}
