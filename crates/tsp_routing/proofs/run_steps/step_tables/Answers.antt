-- The goals of `step_tables` in src/run_steps.rt, which makes the tables of the steps from the first nodes: its loop.
use Rattle.tsp_routing.proofs.Prelude.{◌≡◌, ◌+◌, ◌++◌, ◌∷◌, ◌∙◌, ℕ, List, [], length, ap, subst, sym, arith, length_push, Vec}
use Rattle.tsp_routing.specs.declared.run_steps.StepTable.{StepTable}
use Rattle.tsp_routing.specs.states.MemoryTables.{AreTablesFrom, AreStepTables}
use Rattle.tsp_routing.proofs.WaysHome.{rows_pushed}
use Rattle.tsp_routing.proofs.run_steps.step_tables.Goals as goal

-- plan: one row more
pub nodes-preserved : goal.nodes-preserved
nodes-preserved c =
    let memories = c.args.memories.now in
    let keys = memories.keys.items in
    let places = memories.places.items in
    let charges = c.args.charges.now in
    let before : List (Vec StepTable) = c.nodes.rows.items in
    let own : Vec StepTable = c.in_ok-row.row in
    let pushed : c.push.new.list.items ≡ before ++ own ∷ [] = c.in_ok-push.ensures.items in
    let long = length_push before own in
    let h = c.nodes.invariant in
    record {
      long = ap (λ (xs : List (Vec StepTable)). length xs) pushed ∙ omega (arith, long, h.long);
      are = subst (AreStepTables memories.nodes keys places charges) (sym pushed)
          (rows_pushed (λ (place : ℕ) (tables : List StepTable). AreTablesFrom memories.nodes keys places charges (place + 1) tables)
          before own h.are
          (subst (λ (place : ℕ). AreTablesFrom memories.nodes keys places charges (place + 1) own.items) (sym h.long) c.in_ok-row.ensures));
    }
