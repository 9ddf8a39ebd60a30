-- The loop of `onwards` in src/run_leaf.rt.
use Rattle.tsp_routing.proofs.Prelude.{◌≡◌, ◌≤◌, ◌+◌, ℕ, pos, length, get_or, IsNode}
use Rattle.tsp_routing.specs.states.RunTables.{IsOnward, IsOnwardSized}
use Rattle.tsp_routing.proofs.run_leaf.onwards.Given as goal

-- the list has a place 0, and the numbers of the nodes up to `index`
abbrev pub invariant-nodes : goal.invariant-nodes
invariant-nodes l = record {
  long : length l.onward.items ≡ l.index + 1;
  values : (next : ℕ) → IsNode l.index next → IsOnward l.run_nodes.nodes l.run_nodes.depot l.run_nodes.loads.now (length l.table)
      l.table next (get_or l.onward.items next (pos 0));
  sizes : (next : ℕ) → IsNode l.index next → IsOnwardSized (length l.table) (get_or l.onward.items next (pos 0));
}
