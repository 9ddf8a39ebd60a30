-- The goals of `put_leaves` in src/shown.rt: what it ensures.
use Rattle.tsp_report.proofs.Prelude.{◌++◌, codes, way_of, carried_then, decimal}
use Rattle.tsp_format.specs.Steps.{leaf_count}
use Rattle.tsp_format.specs.states.TreeSteps.{steps_of}
use Rattle.tsp_report.proofs.shown.put_leaves.Goals as goal

-- plan: the word and the number (`carried_then`)
pub returns : goal.returns
returns g c =
    let start = way_of g.W.Takes.contents c.args.out.now c.args.piece.now.items in
    let after_number = way_of g.W.Takes.contents c.put_named.new.out c.put_named.new.piece.items in
    let last = way_of g.W.Takes.contents c.put.new.out c.put.new.piece.items in
    let named = rw c.leaves_of.ensures at c.put_named.ensures in
    carried_then start after_number last (codes "leaves " ++ decimal (leaf_count (steps_of c.args.steps.now))) (codes "\n") named c.put.ensures
