-- The loop of `near_by_node` in src/judged_memory.rt.
use Rattle.tsp_routing.proofs.Prelude.{◌≡◌, ◌≤◌, ◌+◌, ◌-◌, ℕ, length, drop}
use Rattle.tsp_routing.specs.RunTrees.{near_of}
use Rattle.tsp_routing.specs.states.MemoryTables.{near_in}
use Rattle.tsp_routing.specs.states.RunTables.{item_lists}
use Rattle.tsp_routing.proofs.judged_memory.near_by_node.Given as goal

-- the table is that of the last lists
abbrev pub invariant-lists : goal.invariant-lists
invariant-lists l = record {
  places : length l.near.items ≡ l.nodes + 1;
  are : (node : ℕ) → node ≤ l.nodes → near_in l.near.items node ≡ near_of (drop (length l.lists - l.back) (item_lists l.lists)) node;
}
