-- The goals of `put_path` in src/compared.rt: what it ensures.
use Rattle.tsp_report.proofs.Prelude.{◌++◌, codes, way_of, carried_then}
use Rattle.tsp_report.proofs.compared.put_path.Goals as goal

-- plan: a blank, the path and the line's end (`carried_then`)
pub returns : goal.returns
returns g c =
    let start = way_of g.W.Takes.contents c.args.out.now c.args.piece.now.items in
    let begun = way_of g.W.Takes.contents c.put.new.out c.put.new.piece.items in
    let after_path = way_of g.W.Takes.contents c.put-2.new.out c.put-2.new.piece.items in
    let last = way_of g.W.Takes.contents c.put-3.new.out c.put-3.new.piece.items in
    carried_then start after_path last (codes " " ++ c.args.path.now) (codes "\n")
    (carried_then start begun after_path (codes " ") c.args.path.now c.put.ensures c.put-2.ensures) c.put-3.ensures
