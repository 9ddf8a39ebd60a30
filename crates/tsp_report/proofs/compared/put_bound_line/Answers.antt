-- The goals of `put_bound_line` in src/compared.rt, which adds the line of a bound: what it ensures.
use Rattle.tsp_report.proofs.Prelude.{◌++◌, rules, codes, FitsSigned, signed_decimal, w128, to_z-of_z, way_of, carried_then}
use Rattle.tsp_report.proofs.compared.put_bound_line.Goals as goal

-- plan: the bound and the end of its line, after each other
pub returns : goal.returns
returns g c =
    let start = way_of g.W.Takes.contents c.args.out.now c.args.piece.now.items in
    let after_bound = way_of g.W.Takes.contents c.put_named.new.out c.put_named.new.piece.items in
    let last = way_of g.W.Takes.contents c.put.new.out c.put.new.piece.items in
    let fits : FitsSigned w128 c.args.bound = search rules in
    let named = simp to_z-of_z at c.put_named.ensures in
    carried_then start after_bound last (codes "bound " ++ signed_decimal c.args.bound) (codes "\n") named c.put.ensures
