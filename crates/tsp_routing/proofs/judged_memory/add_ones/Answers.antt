-- The goals of `add_ones` in src/judged_memory.rt, which counts one more at each node: its loop.
use Rattle.tsp_routing.proofs.Prelude.{◌≡◌, ◌<◌, ◌+◌, ◌∙◌, ℕ, length, get_or, arith, length-set}
use Rattle.tsp_routing.proofs.JudgedLists.{ones_more}
use Rattle.tsp_routing.proofs.judged_memory.add_ones.Goals as goal

-- plan: node by node
pub nodes-preserved : goal.nodes-preserved
nodes-preserved c =
    let h = c.nodes.invariant in
    let node : ℕ = get_or c.args.nodes.now c.nodes.node-index 0 in
    let there = c.requires.inside c.nodes.node-index 0 c.nodes-test.true in
    let inside : node < length c.nodes.counts = let long = h.long in omega (arith, there, long) in
    record {
      long = length-set c.nodes.counts node (get_or c.nodes.counts node 0 + 1) ∙ h.long;
      counted = ones_more c.nodes.counts c.args.counts.now c.args.nodes.now c.nodes.node-index c.nodes-test.true c.requires.once inside h.counted;
    }
