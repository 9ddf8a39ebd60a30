-- The loop of `least_q_route` in src/least_q_route.rt.
use Rattle.std.proofs.Common.{◌≡◌, ◌+◌, length}
use Rattle.tsp_routing.specs.states.Demands.{load_at, AreRowsSized, AreRowsLow, AreRowsMet}
use Rattle.tsp_routing.proofs.least_q_route.least_q_route.Given as goal

-- the table has a row for each load before this one. Its entries are at most each rest of a walk, and one rest has that
-- weight
abbrev pub invariant-loads : goal.invariant-loads
invariant-loads g l =
    let value = g.S.Sum.value in
    let w = g.W.Weights.at l.q_routes.weights.now in
    record {
      long : length l.table.items ≡ l.load;
      room : length l.row ≡ l.q_routes.nodes + 1;
      rows : AreRowsLow value l.q_routes.nodes l.q_routes.depot w (load_at l.q_routes.loads.now) l.table.items;
      mets : AreRowsMet value g.S.Sum.half l.q_routes.nodes l.q_routes.depot w (load_at l.q_routes.loads.now) l.table.items;
      sizes : AreRowsSized value g.S.Sum.half g.S.Sum.link l.q_routes.nodes l.table.items;
    }
