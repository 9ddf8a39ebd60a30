-- The loop of `Points::along` in src/points.rt, which computes the length of a tour.
use Rattle.tsp_cost.proofs.Prelude.{◌≡◌, ◌+◌, ◌-◌, ◌≤◌, length, ◌+ℤ◌, IsNode, length_of}
use Rattle.std.specs.List.{All}
use Rattle.tsp_cost.specs.states.Views.{points_nodes, points_cost}
use Rattle.tsp_cost.specs.states.Metrics.{length_to, IsSumOfCosts}
use Rattle.tsp_cost.proofs.points.Points.along.Given as goal

-- the length so far plus that from `from` through `rest` back to the first node is the whole length
abbrev pub invariant-parts : goal.invariant-parts
invariant-parts g l = record {
  node : IsNode (points_nodes l.self) l.from;
  range : All (IsNode (points_nodes l.self)) l.rest;
  few : length l.rest + 1 ≤ length l.tour;
  size : IsSumOfCosts (length l.tour - (length l.rest + 1)) l.length;
  so_far : (l.length +ℤ length_to (points_cost g.P.InSpace.place l.self) l.first l.from l.rest)
      ≡ length_of (points_cost g.P.InSpace.place l.self) l.tour;
}

-- each round takes a block off `rest`
abbrev pub decreases-parts : goal.decreases-parts
decreases-parts g l = length l.rest
