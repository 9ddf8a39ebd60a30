-- The goals of `put_found` in src/report.rt, which adds the bound and `yes`, or `no`: what it ensures.
use Rattle.tsp_report.proofs.Prelude.{None, Ok, Some, ap, ◌∙◌, ◌≡◌, ◌++◌, rules, codes, FitsSigned, w128, to_z-of_z, signed_decimal, way_of, carried_then}
use Rattle.tsp_report.proofs.report.put_found.Goals as goal

-- plan: by what was found, a bound (`carried_then`) or no tour
pub returns-in-Ok-Some : goal.returns-in-Ok-Some
returns-in-Ok-Some g c =
    let start = way_of g.W.Takes.contents c.args.out.now c.args.piece.now.items in
    let after_bound = way_of g.W.Takes.contents c.put_named.new.out c.put_named.new.piece.items in
    let last = way_of g.W.Takes.contents c.put.new.out c.put.new.piece.items in
    let fits : FitsSigned w128 c.in-Ok-Some.bound = search rules in
    let named = simp to_z-of_z at c.put_named.ensures in
    let bound : c.in-Ok-Some.field-0 ≡ Some c.in-Ok-Some.bound = rw c.in-Ok-Some.is at c.in-Ok-Some.field-0-is in
    rw (c.in-Ok-Some.is ∙ ap Ok bound)
    (carried_then start after_bound last (codes "bound " ++ signed_decimal c.in-Ok-Some.bound) (codes "\nyes\n") named c.put.ensures)

pub returns-in-Ok-None : goal.returns-in-Ok-None
returns-in-Ok-None g c =
    let none : c.in-Ok-None.field-0 ≡ None = rw c.in-Ok-None.is at c.in-Ok-None.field-0-is in
    rw (c.in-Ok-None.is ∙ ap Ok none) c.put-in-Ok-None.ensures
