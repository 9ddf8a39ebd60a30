-- The loop of `search_again` in src/rounds.rt, which finds the best link of each component for the next round.
use Rattle.tsp_bound.specs.states.Components.{AreKept, AreLeaving}
use Rattle.tsp_bound.proofs.RoundJoins.{AreReached}
use Rattle.tsp_bound.proofs.rounds.search_again.Given as goal

-- the best link of each component weighs no more than the known link of each of its nodes before this one
abbrev pub invariant-nodes : goal.invariant-nodes
invariant-nodes g l =
    let n = g.P.Components.count_of l.nodes in
    let w = g.P.Components.weight_of l.nodes in
    let label = g.P.Components.label_of l.nodes in
    record {
      known : AreKept n w label l.known.items;
      best : AreLeaving n w label l.best.items;
      reached : AreReached label l.best.items l.known.items l.node;
    }
