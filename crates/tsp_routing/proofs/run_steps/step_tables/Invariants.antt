-- The loop of `step_tables` in src/run_steps.rt.
use Rattle.tsp_routing.proofs.Prelude.{◌≡◌, length}
use Rattle.tsp_routing.specs.states.MemoryTables.{AreStepTables}
use Rattle.tsp_routing.proofs.run_steps.step_tables.Given as goal

-- there are the rows of the nodes up to `index`
abbrev pub invariant-nodes : goal.invariant-nodes
invariant-nodes l = record {
  long : length l.rows.items ≡ l.index;
  are : AreStepTables l.memories.nodes l.memories.keys.items l.memories.places.items l.charges l.rows.items;
}
