-- The goal of `run_trees_bound_plans` in src/laws.rt.
use Rattle.tsp_routing.proofs.RunsBoundPlans.{run_trees_bound_plans}
use Rattle.tsp_routing.proofs.laws.run_trees_bound_plans.Goals as goal

pub returns : goal.returns
returns c = run_trees_bound_plans
