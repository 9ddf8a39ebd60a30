-- The goals of `least_routes` in src/routes.rt, which returns the least number of routes for all demands: what it
-- ensures.
use Rattle.tsp_verdict.proofs.Prelude.{◌+◌, ◌-◌, ◌/◌, rules, subst, FitsSigned, nat_abs, ℤ, w64, to_z-of_z, IsLeastRoutes}
use Rattle.tsp_routing.proofs.CutNeeds.{least_of}
use Rattle.tsp_verdict.proofs.routes.least_routes.Goals as goal

-- plan: the sum of all demands, divided and rounded up (`least_of`)
pub returns : goal.returns
returns c =
    let total : ℤ = c.total-total.result in
    let total_fits : FitsSigned w64 c.total-total.result = search rules in
    let capacity_fits : FitsSigned w64 c.args.capacity = search rules in
    simp to_z-of_z (subst (λ (z : ℤ). IsLeastRoutes z c.args.capacity
    ((nat_abs c.total-total.result + (nat_abs c.args.capacity - 1)) / nat_abs c.args.capacity)) c.total-total.ensures.value
    (least_of c.total-total.result c.args.capacity c.total-total.ensures.low c.requires.capacity.0))
