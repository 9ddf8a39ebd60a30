-- The goals of `put_no` in src/report.rt, which adds `no` with its reason: what it ensures.
use Rattle.tsp_report.proofs.Prelude.{◌++◌, codes, way_of, carried_then}
use Rattle.tsp_report.specs.Report.{reason_text, keyword_after_blank}
use Rattle.tsp_report.proofs.report.put_no.Goals as goal

-- plan: `no`, the reason, its keyword and the line's end (`carried_then`)
pub returns : goal.returns
returns g c =
    let start = way_of g.W.Takes.contents c.args.out.now c.args.piece.now.items in
    let begun = way_of g.W.Takes.contents c.put.new.out c.put.new.piece.items in
    let after_reason = way_of g.W.Takes.contents c.put_reason.new.out c.put_reason.new.piece.items in
    let after_keyword = way_of g.W.Takes.contents c.put_keyword.new.out c.put_keyword.new.piece.items in
    let last = way_of g.W.Takes.contents c.put-2.new.out c.put-2.new.piece.items in
    let text = reason_text c.args.reason in
    let keyword = keyword_after_blank c.args.instance.now c.args.reason in
    carried_then start after_keyword last (codes "no " ++ text ++ keyword) (codes "\n")
    (carried_then start after_reason after_keyword (codes "no " ++ text) keyword
    (carried_then start begun after_reason (codes "no ") text c.put.ensures c.put_reason.ensures) c.put_keyword.ensures) c.put-2.ensures
