-- The goals of `put_words` in src/compared.rt, which adds the words on a verdict: what it ensures.
use Rattle.tsp_report.proofs.Prelude.{◌++◌, rules, codes, decimal, FitsSigned, signed_decimal, w64, to_z-of_z, way_of, carried_then}
use Rattle.tsp_report.specs.Report.{bound_words, reason_text}
use Rattle.tsp_report.proofs.Texts.{then_named}
use Rattle.tsp_report.proofs.compared.put_words.Goals as goal

-- plan: by the verdict: a length with its gap or its routes, or a reason (`then_named`)
pub returns-in-Tour : goal.returns-in-Tour
returns-in-Tour g c =
    let start = way_of g.W.Takes.contents c.args.out.now c.args.piece.now.items in
    let after_length = way_of g.W.Takes.contents c.put_number.new.out c.put_number.new.piece.items in
    let last = way_of g.W.Takes.contents c.put_bound_words.new.out c.put_bound_words.new.piece.items in
    let fits : FitsSigned w64 c.in-Tour.length = search rules in
    let number = simp to_z-of_z at c.put_number.ensures in
    let bound = simp to_z-of_z at c.put_bound_words.ensures in
    rw c.in-Tour.is (carried_then start after_length last (signed_decimal c.in-Tour.length) (bound_words c.in-Tour.length c.in-Tour.bound) number bound)

pub returns-in-Routes : goal.returns-in-Routes
returns-in-Routes g c =
    let start = way_of g.W.Takes.contents c.args.out.now c.args.piece.now.items in
    let after_length = way_of g.W.Takes.contents c.put_number-in-Routes.new.out c.put_number-in-Routes.new.piece.items in
    let after_routes = way_of g.W.Takes.contents c.put_named.new.out c.put_named.new.piece.items in
    let last = way_of g.W.Takes.contents c.put_bound_words-in-Routes.new.out c.put_bound_words-in-Routes.new.piece.items in
    let fits : FitsSigned w64 c.in-Routes.length = search rules in
    let number = simp to_z-of_z at c.put_number-in-Routes.ensures in
    let bound = simp to_z-of_z at c.put_bound_words-in-Routes.ensures in
    let counted = then_named start after_length after_routes (signed_decimal c.in-Routes.length) (codes " routes ")
    (decimal c.in-Routes.routes) number c.put_named.ensures in
    rw c.in-Routes.is (carried_then start after_routes last
    (signed_decimal c.in-Routes.length ++ codes " routes " ++ decimal c.in-Routes.routes)
    (bound_words c.in-Routes.length c.in-Routes.bound) counted bound)

pub returns-in-No : goal.returns-in-No
returns-in-No g c =
    let start = way_of g.W.Takes.contents c.args.out.now c.args.piece.now.items in
    let begun = way_of g.W.Takes.contents c.put.new.out c.put.new.piece.items in
    let last = way_of g.W.Takes.contents c.put_reason.new.out c.put_reason.new.piece.items in
    rw c.in-No.is (carried_then start begun last (codes "no ") (reason_text c.in-No.reason) c.put.ensures c.put_reason.ensures)
