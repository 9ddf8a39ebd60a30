-- The goals of `run_bounds_bound_plans` in src/laws.rt: what it ensures.
use Rattle.tsp_routing.proofs.RunsBoundPlans.{run_bounds_bound_plans, run_bounds_are_unique}
use Rattle.tsp_routing.proofs.laws.run_bounds_bound_plans.Goals as goal

-- plan: each route weighs at least as much as the least run; the weights of all give back potentials, crossings and
-- charges
pub returns : goal.returns
returns c = record { plans = run_bounds_bound_plans; one = run_bounds_are_unique }
