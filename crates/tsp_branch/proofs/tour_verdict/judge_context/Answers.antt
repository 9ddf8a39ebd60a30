-- The goals of `judge_context` in src/tour_verdict.rt, which returns the least bound of the leaves, or the first leaf
-- that isn't good: what it ensures.
use Rattle.tsp_branch.proofs.Prelude.{ℕ, IfOk-weaker, steps_of, good_in}
use Rattle.tsp_branch.proofs.Judging.{certificate_judged}
use Rattle.tsp_branch.proofs.tour_verdict.judge_context.Goals as goal

-- plan: one pass over the steps finds the least bound of the leaves or the first bad one, which is the judgement
-- (`certificate_judged`)
pub returns-clause-judged : goal.returns-clause-judged
returns-clause-judged g c =
    let s = c.args.context.now in
    let cases = s.cases.now in
    IfOk-weaker c.judge_leaves.result _ _ (λ found is are.
    certificate_judged cases.directed (g.C.Costs.nodes s.costs.now) (g.C.Costs.at s.costs.now) cases.scale (good_in s.families.now) s.families.now.crossed.items
    cases.given.now (steps_of cases.steps.now) found is are cases.whole)
    c.judge_leaves.ensures.judged
