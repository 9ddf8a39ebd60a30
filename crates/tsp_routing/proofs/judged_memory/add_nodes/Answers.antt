-- The goals of `add_nodes` in src/judged_memory.rt, which adds nodes behind others: its loop.
use Rattle.tsp_routing.proofs.JudgedLists.{nodes_pushed}
use Rattle.tsp_routing.proofs.judged_memory.add_nodes.Goals as goal

-- plan: node by node
pub nodes-preserved : goal.nodes-preserved
nodes-preserved c =
    nodes_pushed c.nodes.nodes.items _ _ c.args.more.now c.nodes.node-index c.nodes-test.true c.in_ok-push.ensures.items c.nodes.invariant
