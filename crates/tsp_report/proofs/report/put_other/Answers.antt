-- The goals of `put_other` in src/report.rt, which adds the line of an unknown keyword: what it ensures.
use Rattle.tsp_report.proofs.Prelude.{◌++◌, codes, way_of, carried_then}
use Rattle.tsp_report.proofs.report.put_other.Goals as goal

-- plan: the words, the keyword and the line's end (`carried_then`)
pub returns : goal.returns
returns g c =
    let start = way_of g.W.Takes.contents c.args.out.now c.args.piece.now.items in
    let begun = way_of g.W.Takes.contents c.put.new.out c.put.new.piece.items in
    let after_keyword = way_of g.W.Takes.contents c.put-2.new.out c.put-2.new.piece.items in
    let last = way_of g.W.Takes.contents c.put-3.new.out c.put-3.new.piece.items in
    carried_then start after_keyword last (codes "not judged " ++ c.args.keyword.now) (codes "\n")
    (carried_then start begun after_keyword (codes "not judged ") c.args.keyword.now c.put.ensures c.put-2.ensures) c.put-3.ensures
