-- The goals of `put_bound` in src/report.rt, which adds the bound, and `optimal` or the gap: what it ensures.
use Rattle.tsp_report.proofs.Prelude.{◌++◌, ◌≡◌, rules, codes, FitsSigned, ◌-ℤ◌, w64, w128, to_z-of_z, signed_decimal, way_of, carried_none, carried_then}
use Rattle.tsp_report.specs.Report.{gap_lines}
use Rattle.tsp_report.proofs.report.put_bound.Goals as goal

-- plan: by whether there is a bound: its line, then the word for optimal or the gap (`carried_then`)
pub returns-in-Some : goal.returns-in-Some
returns-in-Some g c =
    let start = way_of g.W.Takes.contents c.args.out.now c.args.piece.now.items in
    let after_bound = way_of g.W.Takes.contents c.put_named.new.out c.put_named.new.piece.items in
    let last = way_of g.W.Takes.contents c.put_gap.new.out c.put_gap.new.piece.items in
    let bound = c.in-Some.bound in
    let fits : FitsSigned w64 c.args.length = search rules in
    let bound_fits : FitsSigned w128 c.in-Some.bound = search rules in
    let gap_fits : FitsSigned w128 c.gap_of.result = search rules in
    let named = simp to_z-of_z at c.put_named.ensures in
    let gap : c.gap_of.result ≡ c.args.length -ℤ c.in-Some.bound = simp to_z-of_z at c.gap_of.ensures in
    let rest = rw gap at (simp to_z-of_z at c.put_gap.ensures) in
    rw c.in-Some.is (carried_then start after_bound last (codes "bound " ++ signed_decimal bound) (gap_lines (c.args.length -ℤ bound)) named rest)

pub returns-in_default : goal.returns-in_default
returns-in_default g c = rw c.in_default.is (carried_none (way_of g.W.Takes.contents c.args.out.now c.args.piece.now.items))
