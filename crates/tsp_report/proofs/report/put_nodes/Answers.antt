-- The goals of `put_nodes` in src/report.rt: what it ensures.
use Rattle.tsp_report.proofs.Prelude.{◌++◌, codes, way_of, carried_then, decimal}
use Rattle.tsp_report.proofs.report.put_nodes.Goals as goal

-- plan: the word and the number (`carried_then`)
pub returns : goal.returns
returns g c =
    let start = way_of g.W.Takes.contents c.args.out.now c.args.piece.now.items in
    let after_number = way_of g.W.Takes.contents c.put_named.new.out c.put_named.new.piece.items in
    let last = way_of g.W.Takes.contents c.put.new.out c.put.new.piece.items in
    carried_then start after_number last (codes "nodes " ++ decimal c.args.nodes) (codes "\n") c.put_named.ensures c.put.ensures
