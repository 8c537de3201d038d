-- The length by the lemma: to compute it would count every zero.
use Rattle.std.proofs.Common.{◌≡◌, ℕ, length, sym}
use Rattle.std.proofs.Math.ListN.{replicate}
use Rattle.std.proofs.lemmas.List.{length-replicate}
use Rattle.drive.proofs.sound.room.Goals as goal

filled : (n : ℕ) → n ≡ length {A = ℕ} (replicate n 0)
filled n = sym (length-replicate n 0)

pub returns : goal.returns
returns c = filled 524288
