-- The goals of `plan_bounds_bound_plans` in src/laws.rt: what it ensures.
use Rattle.tsp_routing.proofs.QRoutesBoundPlans.{plan_bounds_bound_plans}
use Rattle.tsp_routing.proofs.laws.plan_bounds_bound_plans.Goals as goal

-- plan: set by set, the limits and multipliers give back no more than they take off the weight of the plan
pub returns : goal.returns
returns c = plan_bounds_bound_plans
