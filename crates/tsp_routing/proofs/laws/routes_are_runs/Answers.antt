-- The goals of `routes_are_runs` in src/laws.rt: what it ensures.
use Rattle.tsp_routing.proofs.RunsBoundPlans.{apart_customers_are_runs, routes_are_runs}
use Rattle.tsp_routing.proofs.laws.routes_are_runs.Goals as goal

-- plan: along the list, what a run remembers isn't among the customers to come; a route's customers don't come again
pub returns : goal.returns
returns c = record { apart = apart_customers_are_runs; routes = routes_are_runs }
