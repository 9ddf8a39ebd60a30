-- The loop of `load` in src/routes.rt.
use Rattle.tsp_verdict.proofs.Prelude.{◌≡◌, drop, ◌+ℤ◌, load_of}
use Rattle.tsp_verdict.proofs.RouteFiles.{IsLoadOf}
use Rattle.tsp_verdict.proofs.routes.load.Given as goal

-- the sum so far, and what the nodes left demand, are the demand of all nodes of the route
abbrev pub invariant-nodes : goal.invariant-nodes
invariant-nodes l = record {
  size : IsLoadOf l.node-index l.sum;
  so_far : (l.sum +ℤ load_of l.demands (drop l.node-index l.route)) ≡ load_of l.demands l.route;
}
