-- Key and frequency are read at the tail of the lowest list.
use Rattle.std.proofs.Common.{rules}
use Rattle.buckets_reads.proofs.Telling as telling
use Rattle.buckets_reads.proofs.sound.peek_min.Goals as goal

pub returns-in_default : goal.returns-in_default
returns-in_default c = λ e p n a i sp. telling.peek_empty _ _ (λ l h. c.in_default.ensures.answer _ _ _ _ _ h.lists)

pub offset_bounds-keys-slot : goal.offset_bounds-keys-slot
offset_bounds-keys-slot c = let below = telling.peek_below _ _ _ _ _ c.requires c.in-Some.ensures in search rules

pub bounds-keys-slot : goal.bounds-keys-slot
bounds-keys-slot c = (telling.peek_below _ _ _ _ _ c.requires c.in-Some.ensures).1

pub offset_bounds-freqs-slot : goal.offset_bounds-freqs-slot
offset_bounds-freqs-slot c = let below = telling.peek_below _ _ _ _ _ c.requires c.in-Some.ensures in search rules

pub bounds-freqs-slot : goal.bounds-freqs-slot
bounds-freqs-slot c = (telling.peek_below _ _ _ _ _ c.requires c.in-Some.ensures).2

pub returns : goal.returns
returns c = λ e p n a i sp. telling.peek_some _ _ _ (λ l h. c.in-Some.ensures.answer _ _ _ _ _ h.lists)
