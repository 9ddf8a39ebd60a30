-- The goals of `plan_trees_bound_plans` in src/laws.rt: what it ensures.
use Rattle.tsp_routing.proofs.QRoutesBoundPlans.{plan_trees_bound_plans, plan_tree_bounds_are_unique}
use Rattle.tsp_routing.proofs.laws.plan_trees_bound_plans.Goals as goal

-- plan: a plan keeps the limits of some leaf, whose bound is at most its length; the least bound of the leaves is one
-- number
pub returns : goal.returns
returns c = record { plans = plan_trees_bound_plans; one = plan_tree_bounds_are_unique }
