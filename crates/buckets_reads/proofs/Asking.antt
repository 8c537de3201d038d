-- What the calls on sound tables ask for, from tables that hold a ledger.
use mathlib.Core.Path.{◌≡◌, sym, ◌∙◌}
use mathlib.Core.List.{List}
use Prim.Native.Nat.{ℕ}
use lib.ListN.{length}
use Rattle.promise.specs.Promise.{Sound}
use Rattle.key_index.specs.Index.{IndexSound}
use Rattle.buckets_tables.specs.declared.State.{State}
use Rattle.buckets_tables.specs.Tables.{tables}
use Rattle.buckets_tables.specs.Lent.{buckets}

module _ (k f e p n a i b sp : List ℕ) (s : State) (h : Sound buckets (tables k f e p n a i b sp) s) where
  pub indexed : IndexSound i k
  indexed = h.1.index_sound

  pub with_freqs : IndexSound i k × (length f ≡ length k)
  with_freqs = let z = h.1.sized in (indexed, z.freqs_size ∙ sym z.keys_size)

  pub with_epochs : IndexSound i k × (length e ≡ length k)
  with_epochs = let z = h.1.sized in (indexed, z.epochs_size ∙ sym z.keys_size)
