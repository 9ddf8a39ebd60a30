-- The loop of `tables_from` in src/run_steps.rt.
use Rattle.tsp_routing.proofs.Prelude.{◌≡◌, ◌<◌, ◌+◌, ℕ, map, length, get_or}
use Rattle.tsp_routing.specs.declared.run_steps.StepTable.{StepTable}
use Rattle.tsp_routing.specs.states.MemoryTables.{keys_in, key_places_in, step_key_of, IsTableOf}
use Rattle.tsp_routing.proofs.run_steps.tables_from.Given as goal

-- there are the tables of the steps to the nodes up to `index`
abbrev pub invariant-nodes : goal.invariant-nodes
invariant-nodes l = record {
  long : length l.row.items ≡ l.index;
  are : (place : ℕ) (default : StepTable) → place < l.index
      → IsTableOf (map (step_key_of l.memories.nodes l.charges (key_places_in l.memories.places.items l.before) l.before)
      (keys_in l.memories.keys.items (place + 1))) (get_or l.row.items place default);
}
