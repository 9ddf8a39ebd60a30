-- The goals of `put_accepted` in src/report.rt, which adds the length, the bound and `yes`: what it ensures.
use Rattle.tsp_report.proofs.Prelude.{◌++◌, rules, codes, FitsSigned, signed_decimal, w64, to_z-of_z, way_of, carried_then}
use Rattle.tsp_report.specs.Report.{bound_lines}
use Rattle.tsp_report.proofs.report.put_accepted.Goals as goal

-- plan: the line of the length, then those of the bound if there is one, then the line yes, after each other
pub returns : goal.returns
returns g c =
    let start = way_of g.W.Takes.contents c.args.out.now c.args.piece.now.items in
    let after_length = way_of g.W.Takes.contents c.put_named.new.out c.put_named.new.piece.items in
    let after_line = way_of g.W.Takes.contents c.put.new.out c.put.new.piece.items in
    let after_bound = way_of g.W.Takes.contents c.put_bound.new.out c.put_bound.new.piece.items in
    let last = way_of g.W.Takes.contents c.put-2.new.out c.put-2.new.piece.items in
    let fits : FitsSigned w64 c.args.length = search rules in
    let named = simp to_z-of_z at c.put_named.ensures in
    let bound = simp to_z-of_z at c.put_bound.ensures in
    let text = codes "length " ++ signed_decimal c.args.length in
    let lines = bound_lines c.args.length c.args.bound in
    carried_then start after_bound last (text ++ codes "\n" ++ lines) (codes "yes\n")
    (carried_then start after_line after_bound (text ++ codes "\n") lines
    (carried_then start after_length after_line text (codes "\n") named c.put.ensures) bound) c.put-2.ensures
