-- The goals of `judge_plan_tree` in src/routes.rt, which bounds by a tree of cases of routes, or returns the first
-- reason: the facts of the plans that it makes, that places fit 32 bits, and what it ensures.
use Rattle.tsp_verdict.proofs.Prelude.{ℕ, List, map, sym, subst, arith, rules, FitsSigned, Vec, w64, All, to_z-of_z, length-map, nodes_of, families_of, Branches}
use Rattle.tsp_format.specs.states.TreeSteps.{step_of, steps_of, subset_row_of, subset_rows_of}
use Rattle.tsp_format.specs.Steps.{SubsetRow}
use Rattle.tsp_cases.specs.Crossings.{AreFamiliesOf, lists_of}
use Rattle.tsp_routing.specs.states.LeafWeights.{IsPlanStep}
use Rattle.tsp_verdict.proofs.RouteFiles.{steps_few}
use Rattle.tsp_verdict.proofs.TreeReasons.{families_hold}
use Rattle.tsp_verdict.proofs.RouteVerdicts.{plan_steps, of_files, reported_of_routes, bounds_of_routes, lists_few, lists_hold, rows_hold, plans_find, plans_numbered}
use Rattle.tsp_verdict.specs.Certified.{FindsBound}
use Rattle.tsp_verdict.proofs.routes.judge_plan_tree.Goals as goal

-- plan: each verdict on plans is reported in the words of the files: a reason, a bound, or that there is no solution
pub invariant_of-plans : goal.invariant_of-plans
invariant_of-plans c =
    let tree = c.args.tree.now in
    let held = c.requires.held in
    let scaled : FitsSigned w64 tree.scale = search rules in
    let capable : FitsSigned w64 c.routing-routing.result.capacity = search rules in
    let united : FitsSigned w64 tree.load_unit = search rules in
    record {
      some = c.requires.some;
      depot_in = c.requires.inside;
      each = c.routing-routing.ensures.each;
      demands_are = c.routing-routing.ensures.each_demand;
      capacity_is = rw (to_z-of_z w64 c.routing-routing.result.capacity capable) c.routing-routing.ensures.loadable;
      scaled = rw (to_z-of_z w64 tree.scale scaled) held.scaled;
      united = rw (to_z-of_z w64 tree.load_unit united) held.united;
      few_families = let few = held.each_family.few in
          let long = length-map tree.families.now (λ (sets : Vec (Vec ℕ)). lists_of sets.items) in omega (arith, few, long);
      few_steps = steps_few c.args.branches.now tree.steps.now held.each_step;
      few_lists = lists_few (nodes_of c.args.branches.now) tree.memories.now c.requires.memory.each_list;
      few_rows = let few = c.requires.memory.each_row.few in
          let long = length-map tree.subset_rows.now subset_row_of in omega (arith, few, long);
      lists_are = lists_hold (nodes_of c.args.branches.now) (nodes_of c.args.instance.now) tree.memories.now c.requires.count
          c.requires.memory.each_list;
      rows_are = rows_hold (nodes_of c.args.branches.now) (nodes_of c.args.instance.now) tree.subset_rows.now c.requires.count
          c.requires.memory.each_row;
      sets_are = subst (λ (m : ℕ). AreFamiliesOf m tree.families.now) c.requires.count
          (families_hold (nodes_of c.args.branches.now) tree.families.now held.each_family);
      steps_are = ∣ subst (λ (m : ℕ). All (IsPlanStep m) (steps_of tree.steps.now)) c.requires.count
          (plan_steps c.args.branches.now (steps_of tree.steps.now) held.each_step) ∣₁;
      whole = held.each_step.whole;
    }

pub found_by_tree-requires : goal.found_by_tree-requires
found_by_tree-requires c =
    let tree = c.args.tree.now in
    let held = c.requires.held in
    let few_families = held.each_family.few in
    let few_rows = c.requires.memory.each_row.few in
    plans_numbered _ _ _ (families_of tree.families.now) _ (subset_rows_of tree.subset_rows.now) (steps_of tree.steps.now) c.in_ok-verdict.verdict
    (omega (arith, few_families)) (omega (arith, few_rows))
    (omega (arith, length-map tree.steps.now step_of, steps_few c.args.branches.now tree.steps.now held.each_step))
    c.in_ok-verdict.ensures.verdict

pub returns : goal.returns
returns c =
    let instance = c.args.instance.now in
    let tree = c.args.branches.now in
    let families = c.args.tree.now.families.now in
    let steps = steps_of c.args.tree.now.steps.now in
    let lists : List (List ℕ) = map (λ (list : Vec ℕ). list.items) c.args.tree.now.memories.now in
    let rows : List SubsetRow = subset_rows_of c.args.tree.now.subset_rows.now in
    let demands = c.routing-routing.result.demands.now in
    let are = of_files instance tree c.args.depot demands c.routing-routing.result.capacity c.args.tree.now.scale c.args.tree.now.load_unit
    families lists rows steps (search rules) (search rules) (search rules) c.requires.depot c.routing-routing.ensures.demands
    c.routing-routing.ensures.capacity c.requires.held c.requires.memory in
    subst (FindsBound Branches instance tree) (sym c.found_by_tree.ensures)
    (plans_find instance tree c.in_ok-verdict.verdict c.requires.kind c.requires.sort c.requires.count
    (reported_of_routes instance tree _ _ _ _ _ _ lists rows _ _ are c.in_ok-verdict.ensures.verdict)
    (bounds_of_routes instance tree _ _ _ _ _ _ lists rows _ _ are c.in_ok-verdict.ensures.plans)
    c.in_ok-verdict.ensures.size)
