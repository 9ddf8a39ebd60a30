-- The goals of `routes_are_q_routes` in src/laws.rt: what it ensures.
use Rattle.tsp_routing.proofs.CutNeeds.{routes_fit_capacity, loads_are_some, routes_are_q_routes}
use Rattle.tsp_routing.proofs.laws.routes_are_q_routes.Goals as goal

-- plan: loads are demands rounded down, so they sum to no more than the capacity in units; no customer of a route comes
-- again
pub returns : goal.returns
returns c = record { room = routes_fit_capacity; some = loads_are_some; q_routes = routes_are_q_routes }
