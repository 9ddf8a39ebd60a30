-- The goals of `put_verdict` in src/report.rt, which adds the lines on a verdict: what it ensures.
use Rattle.tsp_report.proofs.Prelude.{◌++◌, rules, codes, decimal, FitsSigned, w64, to_z-of_z, way_of, carried_then}
use Rattle.tsp_report.proofs.Texts.{then_named}
use Rattle.tsp_report.specs.Report.{accepted_lines}
use Rattle.tsp_report.proofs.report.put_verdict.Goals as goal

-- plan: by the verdict: the lines of a tour, of routes, or of a reason (`then_named`)
pub returns-in-Tour : goal.returns-in-Tour
returns-in-Tour g c =
    let fits : FitsSigned w64 c.in-Tour.length = search rules in
    let accepted = simp to_z-of_z at c.put_accepted.ensures in
    rw c.in-Tour.is accepted

pub returns-in-Routes : goal.returns-in-Routes
returns-in-Routes g c =
    let start = way_of g.W.Takes.contents c.args.out.now c.args.piece.now.items in
    let after_routes = way_of g.W.Takes.contents c.put_named.new.out c.put_named.new.piece.items in
    let after_least = way_of g.W.Takes.contents c.put_named-in-Routes.new.out c.put_named-in-Routes.new.piece.items in
    let after_line = way_of g.W.Takes.contents c.put.new.out c.put.new.piece.items in
    let last = way_of g.W.Takes.contents c.put_accepted-in-Routes.new.out c.put_accepted-in-Routes.new.piece.items in
    let fits : FitsSigned w64 c.in-Routes.length = search rules in
    let accepted = simp to_z-of_z at c.put_accepted-in-Routes.ensures in
    let routes = codes "routes " ++ decimal c.in-Routes.routes in
    let both = routes ++ codes "\nleast " ++ decimal c.in-Routes.least in
    let counted = then_named start after_routes after_least routes (codes "\nleast ") (decimal c.in-Routes.least)
    c.put_named.ensures c.put_named-in-Routes.ensures in
    rw c.in-Routes.is (carried_then start after_line last (both ++ codes "\n")
    (accepted_lines c.in-Routes.length c.in-Routes.bound)
    (carried_then start after_least after_line both (codes "\n") counted c.put.ensures) accepted)

pub returns-in-No : goal.returns-in-No
returns-in-No g c = rw c.in-No.is c.put_no.ensures
