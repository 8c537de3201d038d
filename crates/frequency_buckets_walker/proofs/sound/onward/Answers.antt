-- The walker that it goes from is made here; where its step leads is where it stands.
use Rattle.std.proofs.Common.{sym, subst}
use Rattle.frequency_buckets_walker.specs.declared.Stand.{Stand}
use Rattle.frequency_buckets_walker.specs.Walks.{Onward}
use Rattle.frequency_buckets_walker.proofs.Answers.{onward_so}
use Rattle.frequency_buckets_walker.proofs.sound.onward.Goals as goal

pub returns : goal.returns
returns c =
    let P : Stand → Type 0 = λ r. Onward c.args.links.now c.args.at r in
    subst P (sym c.stands.ensures) (onward_so _ _ _ c.step.ensures.1)
