-- The loop of `Points::look_up` in src/points.rt, which reads the points of a block of nodes.
use Rattle.tsp_cost.specs.states.Views.{points_place}
use Rattle.tsp_cost.specs.states.Metrics.{ArePlaces}
use Rattle.tsp_cost.proofs.points.Points.look_up.Given as goal

-- the points of `from` and of the nodes before this one are looked up
abbrev pub invariant-nodes : goal.invariant-nodes
invariant-nodes g l = ArePlaces (points_place g.P.InSpace.place l.self) l.from l.nodes l.k l.places
