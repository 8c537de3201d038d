-- What a walker answers, as far as the slot goes, and where it stands then.
use Rattle.std.specs.Prelude.{Result, Ok, Err, Option, Some, None, ℕ, ◌^◌, ◌-◌}
use Rattle.numbers.specs.declared.Refusal.{Refusal}
use Rattle.numbers.specs.declared.Slot.{Slot}
use Rattle.answers.specs.declared.Guest.{Guest}
use Rattle.frequency_buckets_walker.specs.declared.Stand.{Stand}

-- the plain walk's answers, as far as the slot goes
abbrev pub of_step : Result (Option Guest) Refusal → Result (Option Slot) Refusal
of_step (Ok (Some g)) = Ok (Some g.slot)
of_step (Ok None) = Ok None
of_step (Err why) = Err why

-- out of range of any table
abbrev pub NOWHERE : ℕ
NOWHERE = 2 ^ 64 - 1

-- a walker that has answered a slot stands there, and any other out of range
abbrev pub place_of : Result (Option Slot) Refusal → Slot
place_of (Ok (Some x)) = x
place_of (Ok None) = record { 0 = NOWHERE }
place_of (Err why) = record { 0 = NOWHERE }

abbrev pub stand_of : Result (Option Slot) Refusal → Stand
stand_of a = record { slot = place_of a; answer = a }
