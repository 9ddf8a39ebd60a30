-- The goals of `branch_bound` in src/tour_verdict.rt, which finds the least bound of the leaves of a certificate: what
-- it ensures.
use Rattle.tsp_branch.proofs.Prelude.{ℕ, subst, All, IfOk-weaker, steps_of, IsFamily, good_in}
use Rattle.tsp_branch.proofs.Judging.{cycles_of, costs_for}
use Rattle.tsp_branch.proofs.tour_verdict.branch_bound.Goals as goal

-- plan: a cycle is in the case of some leaf, so the least bound of the leaves bounds every cycle (`cycles_of`)
pub returns-clause-cycles : goal.returns-clause-cycles
returns-clause-cycles g c =
    let costs = c.args.costs.now in
    let n : ℕ = g.C.Costs.nodes costs in
    let cost = g.C.Costs.at costs in
    let weighted = good_in c.args.families.now in
    let given = c.args.cases.now.given.now in
    IfOk-weaker c.judge_context.result _ _ (λ found is.
    cycles_of c.case_trees_bound_cycles.ensures.cycles c.args.cases.now.directed n cost c.args.cases.now.scale weighted c.args.families.now.crossed.items given (steps_of c.args.cases.now.steps.now) found
    (costs_for c.args.cases.now.directed n cost c.requires.some c.requires.even) c.args.cases.now.scaled
    (subst (λ (m : ℕ). ∥ All (IsFamily m) weighted ∥₁) c.requires.families c.args.families.now.are)
    is)
    c.judge_context.ensures.judged
