-- The loop of `nodes_from_three` in src/prim.rt.
use Rattle.std.proofs.Common.{◌≡◌, ◌+◌, length}
use Rattle.tsp_bound.proofs.GrowingTrees.{AreCounted}
use Rattle.tsp_bound.proofs.prim.nodes_from_three.Given as goal

-- the list is 3, 4, .. up to the node before this one
abbrev pub invariant-nodes : goal.invariant-nodes
invariant-nodes l = record {
  count : length l.nodes.items + 3 ≡ l.node;
  each : AreCounted l.nodes.items;
}
