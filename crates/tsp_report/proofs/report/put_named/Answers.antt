-- The goals of `put_named` in src/report.rt, which adds words and a number: what it ensures.
use Rattle.tsp_report.proofs.Prelude.{way_of, carried_then}
use Rattle.tsp_report.proofs.report.put_named.Goals as goal

-- plan: the word, the number and the line's end (`carried_then`)
pub returns : goal.returns
returns g c =
    let start = way_of g.W.Takes.contents c.args.out.now c.args.piece.now.items in
    let after_words = way_of g.W.Takes.contents c.put.new.out c.put.new.piece.items in
    let last = way_of g.W.Takes.contents c.put_number.new.out c.put_number.new.piece.items in
    carried_then start after_words last c.args.words.now (g.N.Integer.text c.args.number) c.put.ensures c.put_number.ensures
