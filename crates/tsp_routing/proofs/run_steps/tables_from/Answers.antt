-- The goals of `tables_from` in src/run_steps.rt, which makes the tables of the steps from a node: its loop.
use Rattle.tsp_routing.proofs.Prelude.{◌≡◌, ◌<◌, ◌+◌, ◌++◌, ◌∷◌, ◌∙◌, ℕ, List, [], map, length, get_or, ap, subst, sym, arith, length_push}
use Rattle.tsp_routing.specs.declared.memories.StepKey.{StepKey}
use Rattle.tsp_routing.specs.declared.run_steps.StepTable.{StepTable}
use Rattle.tsp_routing.specs.states.MemoryTables.{keys_in, key_places_in, step_key_of, IsTableOf}
use Rattle.tsp_routing.proofs.RunSteps.{few_steps, table_pushed}
use Rattle.tsp_routing.proofs.run_steps.tables_from.Goals as goal

-- plan: one table more
pub step_table-requires : goal.step_table-requires
step_table-requires c =
    let memories = c.args.memories.now in
    few_steps c.args.before (c.nodes.index + 1) memories.nodes memories.count memories.keys.items memories.places.items c.args.charges.now
    c.deref.result.now memories.tables (omega arith, omega (arith, c.nodes-test.true)) (c.deref.ensures.value ∙ c.in_ok-steps.ensures)

pub nodes-preserved : goal.nodes-preserved
nodes-preserved c =
    let memories = c.args.memories.now in
    let before : List StepTable = c.nodes.row.items in
    let own : StepTable = c.in_ok-table.table in
    let pushed : c.push.new.list.items ≡ before ++ own ∷ [] = c.in_ok-push.ensures.items in
    let long = length_push before own in
    let h = c.nodes.invariant in
    record {
      long = ap (λ (xs : List StepTable). length xs) pushed ∙ omega (arith, long, h.long);
      are = subst (λ (xs : List StepTable). (place : ℕ) (default : StepTable) → place < c.nodes.index + 1
          → IsTableOf (map (step_key_of memories.nodes c.args.charges.now (key_places_in memories.places.items c.args.before) c.args.before)
          (keys_in memories.keys.items (place + 1))) (get_or xs place default)) (sym pushed)
          (table_pushed (λ (place : ℕ) (table : StepTable). IsTableOf (map (step_key_of memories.nodes c.args.charges.now
          (key_places_in memories.places.items c.args.before) c.args.before) (keys_in memories.keys.items (place + 1))) table)
          before own c.nodes.index h.long h.are
          (subst (λ (steps : List StepKey). IsTableOf steps own) (c.deref.ensures.value ∙ c.in_ok-steps.ensures) c.in_ok-table.ensures));
    }

pub returns : goal.returns
returns c =
    let end : c.nodes.index ≡ c.args.memories.now.nodes = omega (arith, c.nodes-test.false, c.nodes.auto.index-end) in
    record {
      many = c.nodes.invariant.long ∙ end;
      are = λ place default lt. c.nodes.invariant.are place default (omega (arith, lt, end));
    }
