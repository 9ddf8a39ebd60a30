-- The loop of `Points::through` in src/points.rt, which sums the costs along a block of nodes.
use Rattle.tsp_cost.proofs.Prelude.{◌≡◌, ℕ, List, ◌∷◌, ◌++◌, drop, ◌+ℤ◌, slice_index_or, IsNode}
use Rattle.tsp_cost.specs.states.Views.{points_nodes, points_cost}
use Rattle.tsp_cost.specs.states.Metrics.{length_to, IsSumOfCosts}
use Rattle.tsp_cost.proofs.points.Points.through.Given as goal

-- the sum so far plus the length from `last` on is the length from `from` on, whichever nodes come after these
abbrev pub invariant-nodes : goal.invariant-nodes
invariant-nodes g l = record {
  node : IsNode (points_nodes l.self) l.last;
  here : l.last ≡ slice_index_or (l.from ∷ l.nodes) l.k 0;
  size : IsSumOfCosts l.k l.sum;
  so_far : (end : ℕ) (more : List ℕ)
      → (l.sum +ℤ length_to (points_cost g.P.InSpace.place l.self) end l.last (drop l.k l.nodes ++ more))
      ≡ length_to (points_cost g.P.InSpace.place l.self) end l.from (l.nodes ++ more);
}
