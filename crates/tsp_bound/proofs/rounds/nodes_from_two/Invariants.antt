-- The loop of `nodes_from_two` in src/rounds.rt, which lists the nodes from 2 on.
use Rattle.std.proofs.Common.{◌≡◌, ◌+◌, length}
use Rattle.tsp_bound.proofs.rounds.nodes_from_two.Given as goal

-- the list has as many nodes as there are from 2 to the one before this
abbrev pub invariant-nodes : goal.invariant-nodes
invariant-nodes l = length l.nodes.items + 2 ≡ l.node
