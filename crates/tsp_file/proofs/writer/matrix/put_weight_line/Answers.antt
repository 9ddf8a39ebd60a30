-- The goals of `put_weight_line` in src/writer/matrix.rt, which adds a line of weights: what it ensures.
use Rattle.tsp_file.proofs.Prelude.{way_of, w64, to_z-of_z, FitsSigned, rules}
use Rattle.tsp_file.proofs.WrittenLines.{no_weights, some_weights}
use Rattle.tsp_file.proofs.writer.matrix.put_weight_line.Goals as goal

-- plan: by whether the line has weights: they and the line's end are written (`some_weights`), or nothing
-- (`no_weights`)
pub returns-in-Some : goal.returns-in-Some
returns-in-Some g c =
    let fits : FitsSigned w64 c.in-Some.first.now = search rules in
    let first = simp to_z-of_z at c.put_number.ensures in
    let start = way_of g.W.Takes.contents c.args.out.now c.args.piece.now.items in
    let after_first = way_of g.W.Takes.contents c.put_number.new.out c.put_number.new.piece.items in
    let after_rest = way_of g.W.Takes.contents c.put_more_weights.new.out c.put_more_weights.new.piece.items in
    let last = way_of g.W.Takes.contents c.put.new.out c.put.new.piece.items in
    some_weights start after_first after_rest last c.args.weights.now c.in-Some.first.now c.in-Some.rest.now
    c.in-Some.ensures.cases.0 first c.put_more_weights.ensures c.put.ensures

pub returns-in_default : goal.returns-in_default
returns-in_default g c =
    no_weights _ c.args.weights.now c.in_default.ensures.cases
