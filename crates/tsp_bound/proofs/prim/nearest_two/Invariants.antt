-- The loop of `nearest_two` in src/prim.rt.
use Rattle.tsp_bound.proofs.Prelude.{◌-◌, length, least_at, AreNearestBefore}
use Rattle.tsp_bound.proofs.prim.nearest_two.Given as goal

-- `first` and `second` are the two nearest ones of the nodes from 2 to the one before this
abbrev pub invariant-nodes : goal.invariant-nodes
invariant-nodes l =
    AreNearestBefore (length l.weights - 1) (λ i j. least_at l.weights j) l.node l.first.node l.first.weight l.second.node l.second.weight
