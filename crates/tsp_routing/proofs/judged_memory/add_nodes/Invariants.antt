-- The loop of `add_nodes` in src/judged_memory.rt.
use Rattle.std.proofs.Common.{◌≡◌, ◌++◌, drop}
use Rattle.tsp_routing.proofs.judged_memory.add_nodes.Given as goal

-- with the nodes left, the list has all
abbrev pub invariant-nodes : goal.invariant-nodes
invariant-nodes l = l.nodes.items ++ drop l.node-index l.more ≡ l.fn.nodes.items ++ l.more
