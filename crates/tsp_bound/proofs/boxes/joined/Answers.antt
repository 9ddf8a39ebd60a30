-- The goals of `joined` in src/boxes.rt, which joins the areas of two halves: what it ensures.
use Rattle.tsp_bound.proofs.Prelude.{rules, Option, Some, arith, w64, FitsSigned, subst, ints, to_z-of_z}
use Rattle.tsp_bound.specs.declared.area.Area.{Area}
use Rattle.tsp_bound.specs.states.Boxes.{HoldsNode}
use Rattle.tsp_bound.proofs.boxes.joined.Goals as goal

-- plan: the joined region contains those of both halves, and the joined number is at most theirs
pub returns-in-Some-second-clause-left : goal.returns-in-Some-second-clause-left
returns-in-Some-second-clause-left c = λ place number node h.
    let own : HoldsNode place number (Some c.in-Some.left) node = subst (λ (o : Option Area). HoldsNode place number o node) c.in-Some.is h in
    let fits : FitsSigned w64 c.lesser.result = search rules in
    let its : FitsSigned w64 c.in-Some.left.least = search rules in
    let back = to_z-of_z w64 c.lesser.result fits in
    let back' = to_z-of_z w64 c.in-Some.left.least its in
    (c.joined.ensures.left (place node) own.0, omega (arith, ints, back, back', c.lesser.ensures.first, own.1))

pub returns-in-Some-second-clause-right : goal.returns-in-Some-second-clause-right
returns-in-Some-second-clause-right c = λ place number node h.
    let own : HoldsNode place number (Some c.in-Some-second.right) node = subst (λ (o : Option Area). HoldsNode place number o node) c.in-Some-second.is h in
    let fits : FitsSigned w64 c.lesser.result = search rules in
    let its : FitsSigned w64 c.in-Some-second.right.least = search rules in
    let back = to_z-of_z w64 c.lesser.result fits in
    let back' = to_z-of_z w64 c.in-Some-second.right.least its in
    (c.joined.ensures.right (place node) own.0, omega (arith, ints, back, back', c.lesser.ensures.second, own.1))
