-- Each part has its own check; the last test decides where all others said yes.
use Rattle.std.proofs.Common.{◌∙◌, arith}
use Rattle.std.proofs.lemmas.Grind.{common_steps}
use Rattle.lists.proofs.Tests.{says_no}
use Rattle.buckets_check.proofs.Wanted.{wanted}
use Rattle.buckets_check.proofs.Steps.{lowest_decides}
use Rattle.buckets_check.proofs.is_sound.Goals as goal

pub returns-then-not-is_sound : goal.returns-then-not-is_sound
returns-then-not-is_sound c =
    says_no _
    (λ h.
    let p = wanted _ _ _ h.1 in
    let free = p.arena_sound in
    let index = p.index_sound in
    let lists = p.lists_sound in
    let agree = p.agree in
    let count = p.count in
    grind (arith, common_steps))

pub returns : goal.returns
returns c =
    lowest_decides _ _ c.requires
    (c.is_sound.ensures.0 c.if-not-is_sound.false)
    (c.is_sound-else-not-is_sound.ensures.0 c.if-not-is_sound-2.false)
    (c.is_sound-else-not-is_sound-2.ensures.0 c.if-not-is_sound-3.false)
    (c.slots_agree.ensures.0 c.if-not-slots_agree.false)
    (c.if-state-count_used.false ∙ c.count_used.ensures)
    _ c.lowest_frequency.ensures
