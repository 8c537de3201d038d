-- The check as a whole: it passes exactly where a ledger is held (Wanted.antt and Built.antt), and its last test decides that. What is then
-- seen inside tables whose lengths fit is the answer.
use mathlib.Core.Path.{◌≡◌, refl, sym, ◌∙◌}
use mathlib.Core.Logic.{◌↔◌}
use mathlib.Core.Bool.{Bool, true, false}
use mathlib.Core.List.{List}
use Prim.Native.Nat.{ℕ}
use lib.Dec.{eqb}
use lib.ListN.{length}
use borrow.Author.Tests.{eqb-true, eq-eqb}
use Rattle.std.proofs.Common.{Result, Ok, Err}
use Rattle.numbers.specs.declared.Refusal.{Refusal}
use Rattle.numbers.specs.declared.Refusal.TheVariants.{Corrupt}
use Rattle.lists.proofs.Tests.{said_no}
use Rattle.promise.specs.Promise.{corrupt, ledger, Checks, Sound}
use Rattle.promise.specs.Making.{Measures}
use Rattle.promise.proofs.Makings.{fits_done}
use Rattle.slot_arena.specs.Check.{used_in}
use Rattle.slot_arena.specs.Arena.{ArenaSound}
use Rattle.key_index.specs.Index.{IndexSound}
use Rattle.levels.specs.Levels.{Level, lowest_frequency}
use Rattle.levels.specs.Held.{Held, LevelsSound}
use Rattle.levels.specs.Calls.{LowestFrequency}
use Rattle.buckets_tables.specs.declared.State.{State}
use Rattle.buckets_tables.specs.Tables.{Tables, leveled}
use Rattle.buckets_tables.specs.Lent.{buckets}
use Rattle.buckets_check.specs.Check.{AgreeBelow, Passes, SlotAllowed}
use Rattle.buckets_check.proofs.Wanted.{wanted}
use Rattle.buckets_check.proofs.Built.{built}

module _ (t : Tables) (s : State) (fit : SlotAllowed t s.capacity) where
  pub exact : Passes t s ↔ Sound buckets t s
  exact = (λ p. (_, built t s fit p), λ h. wanted t s h.0 h.1)

  -- the last test, after all others said yes
  pub lowest_decides : ArenaSound t.arena s.free → IndexSound t.index t.keys → LevelsSound (leveled t) s.buckets →
      AgreeBelow t.keys t.epochs t.nexts t.arena t.index (length t.keys) → s.count ≡ used_in t.arena →
      (low : ℕ) → LowestFrequency t.buckets s.buckets low → (eqb s.lowest low ≡ true) ↔ Sound buckets t s
  lowest_decides a i h g n low r = (
    λ q.
        exact.0 (record { arena_sound = a; index_sound = i; lists_sound = h; agree = g; count = n; lowest = eqb-true _ _ q ∙ is_lowest h.0 h.1 }),
    λ d. let p = exact.1 d in eq-eqb _ _ (p.lowest ∙ sym (is_lowest p.lists_sound.0 p.lists_sound.1)),
  )
    where
      is_lowest : (ls : List Level) → Held (leveled t) s.buckets ls → low ≡ lowest_frequency ls
      is_lowest ls k = r.answer t.freqs t.prevs t.nexts t.spares ls k

module _ (t : Tables) (s : State) (a : Result Unit Refusal) (m : Measures buckets t s.capacity a) (u : Unit) (e : a ≡ Ok u) (sound : Bool) (told : (sound ≡ true) ↔ Sound buckets t s) where
  pub unsound : sound ≡ false → Checks buckets t s (Err Corrupt)
  unsound off = let fit = fits_done buckets t s.capacity a m u e in (corrupt, (fit.0, fit.1, λ l h. said_no _ told off (l, h)), refl)

  pub holds : sound ≡ true → Checks buckets t s (Ok tt)
  holds on =
      let fit = fits_done buckets t s.capacity a m u e in
      let h = told.0 on in
      (ledger h.0, (fit.0, fit.1, h.1), refl)
