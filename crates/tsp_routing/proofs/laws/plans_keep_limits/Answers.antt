-- The goals of `plans_keep_limits` in src/laws.rt: what it ensures.
use Rattle.tsp_routing.proofs.QRoutesBoundPlans.{plans_cross_evenly, plans_keep_either_limit, plans_keep_leaves}
use Rattle.tsp_routing.proofs.laws.plans_keep_limits.Goals as goal

-- plan: a route crosses a set an even number of times. So a plan keeps one of the two limits of each branch, down to a
-- leaf
pub returns : goal.returns
returns c = record { even = plans_cross_evenly; either = plans_keep_either_limit; leaves = plans_keep_leaves }
