-- The goals of `judge_branches` in src/tour_verdict.rt, which judges a certificate by branching: what its calls require
-- and what it ensures.
use Rattle.tsp_branch.proofs.Prelude.{◌∙◌, ℕ, List, sym, subst, All, IfOk-weaker, steps_of, IsFamily, families_with, good_in}
use Rattle.std.specs.Global.{Vec}
use Rattle.tsp_cases.specs.Crossings.{families_in}
use Rattle.tsp_cases.specs.JudgedTrees.{AreFamiliesJudged, AreCasesJudged}
use Rattle.tsp_branch.specs.BranchVerdicts.{AreJudgedLeaves}
use Rattle.tsp_branch.proofs.Judging.{judged_of, cycles_of_cases, verdict_of_leaves}
use Rattle.tsp_branch.proofs.tour_verdict.judge_branches.Goals as goal

-- plan: by what is found first: a bad family, a pair that is decided twice, a bad leaf; else the least bound of the
-- leaves (`judged_of`)
pub branch_bound-requires-clause-families : goal.branch_bound-requires-clause-families
branch_bound-requires-clause-families g c =
    (subst (AreFamiliesJudged (g.C.Costs.nodes c.args.tree.now.costs.now) c.args.tree.now.families.now) c.in-Good.is c.in_ok-families.ensures).0

pub branch_bound-requires-clause-cases : goal.branch_bound-requires-clause-cases
branch_bound-requires-clause-cases g c =
    let tree = c.args.tree.now in
    (subst (AreCasesJudged (g.C.Costs.nodes tree.costs.now) tree.directed tree.scale tree.given.now tree.steps.now) c.in-Good-2.is c.in_ok-cases.ensures).0.nodes

pub branch_bound-requires-clause-even : goal.branch_bound-requires-clause-even
branch_bound-requires-clause-even g c =
    let tree = c.args.tree.now in
    let are = (subst (AreCasesJudged (g.C.Costs.nodes tree.costs.now) tree.directed tree.scale tree.given.now tree.steps.now) c.in-Good-2.is c.in_ok-cases.ensures).0 in
    λ undirected. tree.even (sym are.direction ∙ undirected)

pub returns-clause-verdict : goal.returns-clause-verdict
returns-clause-verdict g c =
    let tree = c.args.tree.now in
    let n : ℕ = g.C.Costs.nodes tree.costs.now in
    let cost = g.C.Costs.at tree.costs.now in
    let families = c.in-Good.families in
    let crossed = families.crossed.items in
    let cases = c.in-Good-2.cases in
    let is = subst (AreFamiliesJudged n tree.families.now) c.in-Good.is c.in_ok-families.ensures in
    let told = subst (AreCasesJudged n tree.directed tree.scale tree.given.now tree.steps.now) c.in-Good-2.is c.in_ok-cases.ensures in
    let are = subst (λ (lent : List (Vec (Vec ℕ))). All (IsFamily n) (families_with crossed (families_in lent))) (sym is.1) is.2.are in
    IfOk-weaker c.branch_bound.result _ _ (λ found judged.
    verdict_of_leaves tree.directed n cost tree.scale (families_in tree.families.now) crossed tree.given.now (steps_of tree.steps.now)
    found is.2 told.1 told.2
    (subst (λ (lent : List (Vec (Vec ℕ))). AreJudgedLeaves tree.directed n cost tree.scale (families_with crossed (families_in lent)) crossed
    tree.given.now (steps_of tree.steps.now) found) is.1
    (judged_of n cost (good_in families) crossed found cases tree.directed tree.scale tree.given.now tree.steps.now told.0 (judged are))))
    c.branch_bound.ensures.judged

pub returns-clause-cycles : goal.returns-clause-cycles
returns-clause-cycles g c =
    let tree = c.args.tree.now in
    let n : ℕ = g.C.Costs.nodes tree.costs.now in
    let cost = g.C.Costs.at tree.costs.now in
    let told = subst (AreCasesJudged n tree.directed tree.scale tree.given.now tree.steps.now) c.in-Good-2.is c.in_ok-cases.ensures in
    IfOk-weaker c.branch_bound.result _ _ (λ found bounded.
    cycles_of_cases n cost found c.in-Good-2.cases tree.directed tree.scale tree.given.now tree.steps.now told.0 bounded)
    c.branch_bound.ensures.cycles
