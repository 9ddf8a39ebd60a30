-- The goals of `with_routes` in src/tour_file.rt, which splits a tour at copies of the depot: what it ensures.
use Rattle.std.proofs.Common.{◌≡◌, ◌∙◌, ℕ, List, Option, None, Some, IfSome, option_map, unwrap_or, ap, sym, subst, true}
use Rattle.tsp_solution.specs.SolutionRun.{are_within}
use Rattle.tsp_solution.specs.declared.hints.InstanceShape.{InstanceShape}
use Rattle.tsp_solution.proofs.tour_file.with_routes.Goals as goal

-- the nodes of a shape are those of the instance
within_of : (shape : Option InstanceShape) (nodes : ℕ) (tours : Option (List (List ℕ))) → option_map (λ s. s.nodes) shape ≡ Some nodes
    → IfSome shape (λ s. IfSome tours (λ ts. are_within s.nodes ts ≡ true)) → IfSome tours (λ ts. are_within nodes ts ≡ true)
within_of None nodes tours is given = cc
within_of (Some s) nodes tours is given =
    let same : s.nodes ≡ nodes = ap (λ o. unwrap_or o nodes) is in
    subst (λ n. IfSome tours (λ ts. are_within n ts ≡ true)) same given

-- plan: without copies of the depot no tour is split (`within_of`)
pub returns-in_err-routes-clause-left : goal.returns-in_err-routes-clause-left
returns-in_err-routes-clause-left c = λ kind given.
    let none = c.trip_of.ensures (within_of c.args.hints.shape c.in-Some.nodes c.args.file.tours (sym c.nodes.ensures ∙ c.in-Some.is) given) in
    let bad = sym none ∙ c.in-Some-trip_of.is in cc

pub returns-in-Some-2-clause-left : goal.returns-in-Some-2-clause-left
returns-in-Some-2-clause-left c = λ kind given.
    let none = c.trip_of.ensures (within_of c.args.hints.shape c.in-Some.nodes c.args.file.tours (sym c.nodes.ensures ∙ c.in-Some.is) given) in
    let bad = sym none ∙ c.in-Some-trip_of.is in cc
