-- The goals of `judged_plans` in src/plan_verdict.rt, which judges families and memories: what its calls require and
-- what it ensures.
use Rattle.tsp_routing.proofs.Prelude.{◌≡◌, ◌∙◌, ℕ, ℤ, List, map, ap₂, sym, subst, rules, to_z, of_z, FitsSigned, nat_abs, w64, to_z-of_z, RoutingProblem, families_in, Crossings, IsNode}
use Rattle.std.proofs.lemmas.Result.{IfOk-weaker}
use Rattle.tsp_format.specs.Steps.{SubsetRow}
use Rattle.tsp_format.specs.states.TreeSteps.{steps_of, subset_row_of}
use Rattle.tsp_routing.specs.PlanVerdicts.{AreCapacityCuts, routing_with}
use Rattle.tsp_routing.specs.RunTrees.{AreGoodLists, IsFirstBadRow, IsBadMemory}
use Rattle.tsp_routing.specs.RunVerdicts.{IsPlanVerdict}
use Rattle.tsp_routing.specs.declared.demands.Demands.{Demands}
use Rattle.tsp_routing.specs.states.Demands.{loads_problem}
use Rattle.tsp_routing.specs.states.Judged.{AreCutsJudged}
use Rattle.tsp_routing.specs.states.JudgedMemory.{AreListsOf, AreRowsOf, AreMemoriesJudged}
use Rattle.tsp_routing.specs.states.RunTables.{item_lists}
use Rattle.tsp_routing.proofs.plan_verdict.judged_plans.Goals as goal

-- plan: the demands of the judge are those of the certificate, field by field
pub judge_memory-requires-clause-rows : goal.judge_memory-requires-clause-rows
judge_memory-requires-clause-rows g c =
    let tree = c.args.tree.now in
    subst (λ (k : ℕ). AreRowsOf k tree.rows.now) (sym c.count.ensures.value) tree.rows_are

pub returns-in-BadMemory-clause-verdict : goal.returns-in-BadMemory-clause-verdict
returns-in-BadMemory-clause-verdict g c =
    let tree = c.args.tree.now in
    let n : ℕ = g.C.Costs.nodes tree.costs.now in
    let cost = g.C.Costs.at tree.costs.now in
    let lists : List (List ℕ) = item_lists tree.near.now in
    let rows : List SubsetRow = map subset_row_of tree.rows.now in
    let capable : FitsSigned w64 tree.capacity = search rules in
    let demands : Demands = record { nodes = c.count.result; depot = tree.depot; demands = tree.demands; capacity = to_z w64 (of_z w64 tree.capacity) } in
    let is = subst (AreCutsJudged demands tree.families.now) c.in-Good.is c.in_ok-families.ensures in
    let count : c.count.result ≡ n = c.count.ensures.value in
    let problem_is : loads_problem demands cost ≡ routing_with n cost tree.depot tree.demands.now tree.capacity =
    ap₂ (λ (k : ℕ) (z : ℤ). routing_with k cost tree.depot tree.demands.now z) count (to_z-of_z w64 tree.capacity capable) in
    let bad = subst (AreMemoriesJudged c.count.result tree.depot lists rows) c.in-BadMemory.is c.in_ok-near.ensures in (
      (
        c.in-Good.crossed.items,
        subst (λ (p : RoutingProblem). AreCapacityCuts p (families_in tree.families.now) c.in-Good.crossed.items) problem_is (is.3 cost),
      ),
      subst (λ (k : ℕ). IsBadMemory k tree.depot lists rows c.in-BadMemory.customer) count bad,
    )

pub returns-in-BadRow-clause-verdict : goal.returns-in-BadRow-clause-verdict
returns-in-BadRow-clause-verdict g c =
    let tree = c.args.tree.now in
    let n : ℕ = g.C.Costs.nodes tree.costs.now in
    let cost = g.C.Costs.at tree.costs.now in
    let lists : List (List ℕ) = item_lists tree.near.now in
    let rows : List SubsetRow = map subset_row_of tree.rows.now in
    let capable : FitsSigned w64 tree.capacity = search rules in
    let demands : Demands = record { nodes = c.count.result; depot = tree.depot; demands = tree.demands; capacity = to_z w64 (of_z w64 tree.capacity) } in
    let is = subst (AreCutsJudged demands tree.families.now) c.in-Good.is c.in_ok-families.ensures in
    let count : c.count.result ≡ n = c.count.ensures.value in
    let problem_is : loads_problem demands cost ≡ routing_with n cost tree.depot tree.demands.now tree.capacity =
    ap₂ (λ (k : ℕ) (z : ℤ). routing_with k cost tree.depot tree.demands.now z) count (to_z-of_z w64 tree.capacity capable) in
    let bad = subst (AreMemoriesJudged c.count.result tree.depot lists rows) c.in-BadRow.is c.in_ok-near.ensures in
    let found = subst (λ (k : ℕ). AreGoodLists k tree.depot lists × IsFirstBadRow k tree.depot rows c.in-BadRow.row) count bad in (
      (
        c.in-Good.crossed.items,
        subst (λ (p : RoutingProblem). AreCapacityCuts p (families_in tree.families.now) c.in-Good.crossed.items) problem_is (is.3 cost),
      ),
      found.0,
      found.1,
    )

pub tree_verdict-requires-clause-cuts : goal.tree_verdict-requires-clause-cuts
tree_verdict-requires-clause-cuts g c =
    let tree = c.args.tree.now in
    let n : ℕ = g.C.Costs.nodes tree.costs.now in
    let cost = g.C.Costs.at tree.costs.now in
    let lists : List (List ℕ) = item_lists tree.near.now in
    let rows : List SubsetRow = map subset_row_of tree.rows.now in
    let capable : FitsSigned w64 tree.capacity = search rules in
    let demands : Demands = record { nodes = c.count.result; depot = tree.depot; demands = tree.demands; capacity = to_z w64 (of_z w64 tree.capacity) } in
    let is = subst (AreCutsJudged demands tree.families.now) c.in-Good.is c.in_ok-families.ensures in
    let count : c.count.result ≡ n = c.count.ensures.value in
    let problem_is : loads_problem demands cost ≡ routing_with n cost tree.depot tree.demands.now tree.capacity =
    ap₂ (λ (k : ℕ) (z : ℤ). routing_with k cost tree.depot tree.demands.now z) count (to_z-of_z w64 tree.capacity capable) in
    subst (λ (cs : List Crossings). AreCapacityCuts (loads_problem demands cost) (families_in tree.families.now) cs) (sym c.deref.ensures.value)
    (is.3 cost)

pub returns-clause-verdict : goal.returns-clause-verdict
returns-clause-verdict g c =
    let tree = c.args.tree.now in
    let n : ℕ = g.C.Costs.nodes tree.costs.now in
    let cost = g.C.Costs.at tree.costs.now in
    let lists : List (List ℕ) = item_lists tree.near.now in
    let rows : List SubsetRow = map subset_row_of tree.rows.now in
    let capable : FitsSigned w64 tree.capacity = search rules in
    let demands : Demands = record { nodes = c.count.result; depot = tree.depot; demands = tree.demands; capacity = to_z w64 (of_z w64 tree.capacity) } in
    let is = subst (AreCutsJudged demands tree.families.now) c.in-Good.is c.in_ok-families.ensures in
    let count : c.count.result ≡ n = c.count.ensures.value in
    let problem_is : loads_problem demands cost ≡ routing_with n cost tree.depot tree.demands.now tree.capacity =
    ap₂ (λ (k : ℕ) (z : ℤ). routing_with k cost tree.depot tree.demands.now z) count (to_z-of_z w64 tree.capacity capable) in
    IfOk-weaker c.tree_verdict.result _ _ (λ found own.
    subst (λ (p : RoutingProblem). IsPlanVerdict p tree.scale (nat_abs tree.unit) (families_in tree.families.now) lists rows
    (steps_of tree.steps.now) found) problem_is own)
    c.tree_verdict.ensures.verdict

pub judge_cuts-requires-clause-demands : goal.judge_cuts-requires-clause-demands
judge_cuts-requires-clause-demands g c =
    let tree = c.args.tree.now in
    let count = c.count.ensures.value in
    let capable : FitsSigned w64 tree.capacity = search rules in
    record {
      few = c.count.ensures.most;
      depot_in = subst (λ (k : ℕ). IsNode k tree.depot) (sym count) tree.depot_in;
      each = tree.each ∙ sym count;
      demands_are = tree.demands_are;
      capacity_is = rw (to_z-of_z w64 tree.capacity capable) tree.capacity_is;
    }

pub judge_memory-requires-clause-demands : goal.judge_memory-requires-clause-demands
judge_memory-requires-clause-demands g c =
    let tree = c.args.tree.now in
    let count = c.count.ensures.value in
    let capable : FitsSigned w64 tree.capacity = search rules in
    record {
      few = c.count.ensures.most;
      depot_in = subst (λ (k : ℕ). IsNode k tree.depot) (sym count) tree.depot_in;
      each = tree.each ∙ sym count;
      demands_are = tree.demands_are;
      capacity_is = rw (to_z-of_z w64 tree.capacity capable) tree.capacity_is;
    }

pub tree_verdict-requires-clause-demands : goal.tree_verdict-requires-clause-demands
tree_verdict-requires-clause-demands g c =
    let tree = c.args.tree.now in
    let count = c.count.ensures.value in
    let capable : FitsSigned w64 tree.capacity = search rules in
    record {
      few = c.count.ensures.most;
      depot_in = subst (λ (k : ℕ). IsNode k tree.depot) (sym count) tree.depot_in;
      each = tree.each ∙ sym count;
      demands_are = tree.demands_are;
      capacity_is = rw (to_z-of_z w64 tree.capacity capable) tree.capacity_is;
    }

pub judge_cuts-requires-clause-few : goal.judge_cuts-requires-clause-few
judge_cuts-requires-clause-few g c = c.args.tree.now.few_families

pub judge_memory-requires-clause-few_lists : goal.judge_memory-requires-clause-few_lists
judge_memory-requires-clause-few_lists g c = c.args.tree.now.few_lists

pub judge_memory-requires-clause-few_rows : goal.judge_memory-requires-clause-few_rows
judge_memory-requires-clause-few_rows g c = c.args.tree.now.few_rows

pub judge_memory-requires-clause-lists : goal.judge_memory-requires-clause-lists
judge_memory-requires-clause-lists g c =
    let tree = c.args.tree.now in
    subst (λ (k : ℕ). AreListsOf k tree.near.now) (sym c.count.ensures.value) tree.lists_are

pub tree_verdict-requires-clause-same : goal.tree_verdict-requires-clause-same
tree_verdict-requires-clause-same g c = sym c.count.ensures.value

pub returns-clause-size : goal.returns-clause-size
returns-clause-size g c = c.tree_verdict.ensures.size
