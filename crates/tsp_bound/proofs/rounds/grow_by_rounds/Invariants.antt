-- The loop of `grow_by_rounds` in src/rounds.rt, which joins all nodes to a tree in rounds.
use Rattle.std.proofs.Common.{◌≡◌}
use Rattle.tsp_bound.specs.states.Components.{AreKept, IsForest}
use Rattle.tsp_bound.proofs.rounds.grow_by_rounds.Given as goal

-- the added pairs are least joins, each inside one component, and each node's known link weighs no more than any that
-- leaves its component
abbrev pub invariant-rounds : goal.invariant-rounds
invariant-rounds g l =
    let n = g.P.Components.count_of l.fn.nodes in
    let w = g.P.Components.weight_of l.fn.nodes in
    let label = g.P.Components.label_of l.nodes in
    record {
      same_count : g.P.Components.count_of l.nodes ≡ n;
      same_weights : g.P.Components.weight_of l.nodes ≡ w;
      known : AreKept n w label l.known.items;
      forest : IsForest n w label l.added.items;
    }
