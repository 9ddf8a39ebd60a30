-- The goals of `plan_bounds_are_unique` in src/laws.rt: what it ensures.
use Rattle.tsp_routing.proofs.VerdictOfLeaves.{one_plan_bound_found}
use Rattle.tsp_routing.proofs.laws.plan_bounds_are_unique.Goals as goal

-- plan: each cut needs one number of routes, and one number of customers is light; under these a tree has one bound
-- (`one_plan_bound_found`)
pub returns : goal.returns
returns c = one_plan_bound_found
