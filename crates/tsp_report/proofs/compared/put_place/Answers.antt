-- The goals of `put_place` in src/compared.rt, which adds the place of a fault and its name: what it ensures.
use Rattle.tsp_report.proofs.Prelude.{◌++◌, codes, decimal, way_of, carried_then}
use Rattle.tsp_text.specs.ParsesTo.{line_fault_text}
use Rattle.tsp_report.proofs.compared.put_place.Goals as goal

-- plan: the line, the word and the fault's name (`carried_then`)
pub returns : goal.returns
returns g c =
    let start = way_of g.W.Takes.contents c.args.out.now c.args.piece.now.items in
    let begun = way_of g.W.Takes.contents c.put.new.out c.put.new.piece.items in
    let after_line = way_of g.W.Takes.contents c.put_number.new.out c.put_number.new.piece.items in
    let between = way_of g.W.Takes.contents c.put-2.new.out c.put-2.new.piece.items in
    let after_word = way_of g.W.Takes.contents c.put_number-2.new.out c.put_number-2.new.piece.items in
    let last = way_of g.W.Takes.contents c.put_name.new.out c.put_name.new.piece.items in
    let name = codes ": " ++ line_fault_text c.args.fault in
    carried_then start begun last (codes "line ") (decimal c.args.line ++ (codes " word " ++ (decimal c.args.word ++ name))) c.put.ensures
    (carried_then begun after_line last (decimal c.args.line) (codes " word " ++ (decimal c.args.word ++ name)) c.put_number.ensures
    (carried_then after_line between last (codes " word ") (decimal c.args.word ++ name) c.put-2.ensures
    (carried_then between after_word last (decimal c.args.word) name c.put_number-2.ensures c.put_name.ensures)))
