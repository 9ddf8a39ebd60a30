-- The goals of `judge_plans` in src/plan_verdict.rt, which judges a certificate for routes: what it ensures.
use Rattle.tsp_routing.proofs.Prelude.{ℕ, map, nat_abs, families_in}
use Rattle.std.proofs.lemmas.Result.{IfOk-weaker}
use Rattle.tsp_format.specs.states.TreeSteps.{steps_of, subset_row_of}
use Rattle.tsp_routing.specs.PlanLinks.{IsRoutable}
use Rattle.tsp_routing.specs.PlanVerdicts.{routing_with}
use Rattle.tsp_routing.specs.states.RunTables.{item_lists}
use Rattle.tsp_routing.proofs.PlanJudging.{no_demand_below}
use Rattle.tsp_routing.proofs.VerdictOfLeaves.{verdict_bounds}
use Rattle.tsp_routing.proofs.plan_verdict.judge_plans.Goals as goal

-- plan: the problem of a file has a depot, a customer, and no demand below 0, so the verdict bounds its plans
-- (`verdict_bounds`)
pub returns-clause-plans : goal.returns-clause-plans
returns-clause-plans g c =
    let tree = c.args.tree.now in
    let n : ℕ = g.C.Costs.nodes tree.costs.now in
    let problem = routing_with n (g.C.Costs.at tree.costs.now) tree.depot tree.demands.now tree.capacity in
    let routing : IsRoutable problem = record {
      depot_in = tree.depot_in;
      some = tree.some;
      demands = λ node inside. no_demand_below n tree.demands.now tree.each tree.demands_are node inside.0;
    } in
    IfOk-weaker c.judged_plans.result _ _
    (verdict_bounds problem tree.scale (nat_abs tree.unit) (families_in tree.families.now) (item_lists tree.near.now)
    (map subset_row_of tree.rows.now) (steps_of tree.steps.now)
    c.plan_trees_bound_plans.ensures.plans c.run_trees_bound_plans.ensures routing tree.scaled tree.whole)
    c.judged_plans.ensures.verdict
