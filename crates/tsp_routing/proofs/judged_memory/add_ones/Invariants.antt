-- The loop of `add_ones` in src/judged_memory.rt.
use Rattle.tsp_routing.proofs.Prelude.{◌≡◌, ◌+◌, ℕ, length, take, get_or, if◌then◌else◌, has}
use Rattle.tsp_routing.proofs.judged_memory.add_ones.Given as goal

-- the nodes before this one are counted
abbrev pub invariant-nodes : goal.invariant-nodes
invariant-nodes l = record {
  long : length l.counts ≡ length l.fn.counts;
  counted : (node : ℕ) → get_or l.counts node 0 ≡ (if has (take l.node-index l.nodes) node then 1 else 0) + get_or l.fn.counts node 0;
}
