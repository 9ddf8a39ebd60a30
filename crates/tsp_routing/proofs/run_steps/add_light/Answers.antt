-- The goals of `add_light` in src/run_steps.rt, which adds the entries that go on from the light ones of a list: what its
-- calls require.
use Rattle.tsp_routing.proofs.Prelude.{◌∙◌, ℕ, List, sym, subst, IsNode}
use Rattle.tsp_routing.specs.declared.memories.StepKey.{StepKey}
use Rattle.tsp_routing.specs.states.MemoryTables.{IsTableOf}
use Rattle.tsp_routing.proofs.RunSteps.{few_steps, table_kept}
use Rattle.tsp_routing.proofs.run_steps.add_light.Goals as goal

-- plan: the table is one that the leaf keeps, or it is made
pub step_table-requires : goal.step_table-requires
step_table-requires c =
    let leaf = c.args.leaf.now in
    let serving = c.args.serving in
    few_steps serving.before serving.last leaf.memories.now.nodes leaf.memories.now.count leaf.memories.now.keys.items
    leaf.memories.now.places.items leaf.charges.now c.deref.result.now leaf.memories.now.tables
    (subst (λ (n : ℕ). IsNode n serving.last) (sym leaf.same) c.requires.last.0)
    (c.deref.ensures.value ∙ c.in_ok-steps.ensures)

pub add_by_table-requires-clause-table : goal.add_by_table-requires-clause-table
add_by_table-requires-clause-table c =
    let leaf = c.args.leaf.now in
    let serving = c.args.serving in
    table_kept leaf.memories.now.nodes leaf.memories.now.keys.items leaf.memories.now.places.items leaf.charges.now leaf.steps.now
    serving.before serving.last c.table_at-table.result.now leaf.tables c.requires.before.0.0 c.if-serving-leaf.true
    (subst (λ (n : ℕ). IsNode n serving.last) (sym leaf.same) c.requires.last.0) c.table_at-table.ensures

pub add_by_table-requires-2-clause-table : goal.add_by_table-requires-2-clause-table
add_by_table-requires-2-clause-table c =
    let leaf = c.args.leaf.now in
    let serving = c.args.serving in
    subst (λ (steps : List StepKey). IsTableOf steps c.in_ok-table.table)
    (c.deref.ensures.value ∙ c.in_ok-steps.ensures) c.in_ok-table.ensures
