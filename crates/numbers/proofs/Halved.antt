-- The two cases of `halved_times`: below 64 halvings a division, from 64 on the first level.
use mathlib.Core.Path.{◌≡◌}
use Prim.Native.Nat.{ℕ, ◌/◌, ◌^◌, ◌<◌, ◌≤◌, max}
use borrow.Author.Tests.{lt-ltb, le-ltb}
use Rattle.numbers.specs.Frequency.{halved_times, FIRST}

pub halved_times_few : (n f : ℕ) → n < 64 → halved_times n f ≡ max (f / 2 ^ n) FIRST
halved_times_few n f h = rw (lt-ltb n 64 h)

pub halved_times_many : (n f : ℕ) → 64 ≤ n → halved_times n f ≡ FIRST
halved_times_many n f h = rw (le-ltb n 64 h)
