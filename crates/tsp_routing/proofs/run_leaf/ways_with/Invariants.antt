-- The loop of `ways_with` in src/run_leaf.rt.
use Rattle.tsp_routing.proofs.Prelude.{◌≡◌, ◌≤◌, ◌+◌, ◌*◌, ℕ, ℤ, List, pos, neg_ℤ, length, get_or, ◌≤ℤ◌, IsNode, IsCustomer}
use Rattle.tsp_routing.specs.PlanBounds.{most_link}
use Rattle.tsp_format.specs.Steps.{SubsetRow}
use Rattle.tsp_routing.specs.KeptStates.{IsCompletion}
use Rattle.tsp_routing.specs.states.RunTables.{rules_by, AreHomeRows}
use Rattle.tsp_routing.proofs.run_leaf.ways_with.Given as goal

-- the row has a place 0 and the completions of the customers up to `index`
abbrev pub invariant-nodes : goal.invariant-nodes
invariant-nodes l = record {
  long : length l.next.items ≡ l.index + 1;
  ways : (near : ℕ → List ℕ) (rows : List (SubsetRow × ℤ))
      → AreHomeRows (rules_by l.run_nodes.nodes l.run_nodes.depot l.run_nodes.loads.now l.run_nodes.room l.run_nodes.rows.now near rows) l.table
      → (node : ℕ) → IsNode l.index node → (load : ℕ) → load + length l.table ≡ l.run_nodes.room
      → IsCompletion (rules_by l.run_nodes.nodes l.run_nodes.depot l.run_nodes.loads.now l.run_nodes.room l.run_nodes.rows.now near rows)
      load node (get_or l.next.items node (pos 0));
  sizes : (node : ℕ) → IsNode l.index node
      → (neg_ℤ (pos ((length l.table + 1) * most_link)) ≤ℤ get_or l.next.items node (pos 0)) × (get_or l.next.items node (pos 0) ≤ℤ pos most_link);
}
