-- The goals of `put_type` in src/report.rt: what it ensures.
use Rattle.tsp_report.proofs.Prelude.{◌++◌, codes, way_of, carried_then}
use Rattle.tsp_format.specs.Words.{kind_word}
use Rattle.tsp_report.proofs.report.put_type.Goals as goal

-- plan: the word, the TYPE and the line's end (`carried_then`)
pub returns : goal.returns
returns g c =
    let start = way_of g.W.Takes.contents c.args.out.now c.args.piece.now.items in
    let begun = way_of g.W.Takes.contents c.put.new.out c.put.new.piece.items in
    let after_word = way_of g.W.Takes.contents c.put-2.new.out c.put-2.new.piece.items in
    let last = way_of g.W.Takes.contents c.put-3.new.out c.put-3.new.piece.items in
    let word = rw (c.as_bytes.ensures.value, c.word.ensures) at c.put-2.ensures in
    carried_then start after_word last (codes "type " ++ kind_word c.args.kind) (codes "\n")
    (carried_then start begun after_word (codes "type ") (kind_word c.args.kind) c.put.ensures word) c.put-3.ensures
