-- The goals of `put_gap` in src/report.rt, which adds by how much a length is above a bound: what it ensures.
use Rattle.tsp_report.proofs.Prelude.{◌≡◌, ◌++◌, rules, false, arith, codes, FitsSigned, pos, w128, ints, to_z-of_z, signed_decimal, way_of, carried_then}
use Rattle.std.specs.Ordering.{int_eq}
use Rattle.tsp_report.proofs.report.put_gap.Goals as goal

-- plan: by the gap: 0 is the word for optimal, another its line (`carried_then`)
pub returns : goal.returns
returns g c =
    let start = way_of g.W.Takes.contents c.args.out.now c.args.piece.now.items in
    let after_number = way_of g.W.Takes.contents c.put_named.new.out c.put_named.new.piece.items in
    let last = way_of g.W.Takes.contents c.put-2.new.out c.put-2.new.piece.items in
    let fits : FitsSigned w128 c.args.gap = search rules in
    let named = simp to_z-of_z at c.put_named.ensures in
    let some : int_eq c.args.gap (pos 0) ≡ false = grind (arith, ints) in
    rw some (carried_then start after_number last (codes "\ngap " ++ signed_decimal c.args.gap) (codes "\n") named c.put-2.ensures)
