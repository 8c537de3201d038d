-- At the end all links have been passed; they are counted place by place, and the link at k is that of slot k.
use Prim.Native.Nat.{◌-◌}
use borrow.Author.Rules.{rules}
use native.Mathlib.Omega.{arith}
use mathlib.Core.Path.{◌≡◌, ap, ◌∙◌}
use mathlib.Core.Bool.{not}
use lib.Dec.{eqb}
use lib.ListN.{length, drop, take}
use Rattle.std.specs.Prelude.{count_by}
use Rattle.std.proofs.lemmas.List.{get_or-drop, length-drop, take_all}
use Rattle.lists.specs.Marks.{mark, count}
use Rattle.lists.proofs.Totals.{total_same}
use Rattle.links.specs.Chain.{cells}
use Rattle.links.proofs.Counts.{count_cells}
use Rattle.key_index.specs.Index.{OUT}
use Rattle.key_index.specs.Check.{marked}
use Rattle.key_index.proofs.count_in.Goals as goal

pub returns : goal.returns
returns c =
    let index = c.args.index.now in
    let keys = c.args.keys.now in
    let links = drop (length keys) index in
    let size : length links ≡ length index - length keys = length-drop (length keys) index in
    let all : length links ≡ length keys = omega (arith, c.requires.1) in
    let counted : c.loop-link.n ≡ count_by (λ w. not (eqb w OUT)) (take (length index - length keys) links) = search rules in
    counted
    ∙ ap (count_by (λ w. not (eqb w OUT))) (take_all (length index - length keys) links (omega arith))
    ∙ count_cells (λ w. not (eqb w OUT)) links
    ∙ total_same (λ k. mark (not (eqb (cells links k) OUT))) (λ k. mark (marked index keys k)) (length links)
    (λ k l. ap (λ w. mark (not (eqb w OUT))) (get_or-drop (length keys) index k 0))
    ∙ ap (count (marked index keys)) all
