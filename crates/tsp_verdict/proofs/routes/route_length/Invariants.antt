-- The loop of `route_length` in src/routes.rt.
use Rattle.tsp_verdict.proofs.Prelude.{◌≡◌, drop, ◌+ℤ◌, IsNode, cost, nodes_of}
use Rattle.tsp_verdict.specs.states.Marks.{IsSumOf}
use Rattle.tsp_verdict.proofs.RouteFiles.{length_to}
use Rattle.tsp_verdict.proofs.routes.route_length.Given as goal

-- the length so far, and that from `from` through the nodes left back to the depot, are the length of the route
abbrev pub invariant-nodes : goal.invariant-nodes
invariant-nodes l = record {
  from : IsNode (nodes_of l.inst) l.from;
  size : IsSumOf l.node-index l.length;
  so_far : (l.length +ℤ length_to (cost l.inst) l.depot l.from (drop l.node-index l.route)) ≡ length_to (cost l.inst) l.depot
      l.depot l.route;
}
