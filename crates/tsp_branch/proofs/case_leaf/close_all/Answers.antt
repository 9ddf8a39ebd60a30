-- The goals of `close_all` in src/case_leaf.rt, which closes the links of a row that decisions don't allow: its loop
-- and what it ensures.
use Rattle.tsp_branch.proofs.Prelude.{List, arith, All, least_at, Decision, Allows}
use Rattle.tsp_branch.proofs.CaseLeaves.{shut_none, shut_more, shut_same}
use Rattle.tsp_branch.proofs.case_leaf.close_all.Goals as goal

-- plan: one decision more closes the links that it doesn't allow (`shut_more`). After the last, those are open that all
-- allow (`shut_same`)
pub decisions-init : goal.decisions-init
decisions-init c = λ x lt. shut_none (Allows c.args.from x) c.args.decisions.now (least_at c.args.row.now x)

pub decisions-preserved : goal.decisions-preserved
decisions-preserved c = λ x lt.
    let ds : List Decision = c.args.decisions.now in
    shut_more (Allows c.args.from x) ds c.decisions.decision-index _ _ _ _ c.decisions-test.true (c.decisions.invariant x lt) (c.close.ensures x (omega (arith, lt, c.decisions.auto.row)))

pub returns : goal.returns
returns c = λ x lt.
    let ds : List Decision = c.args.decisions.now in
    shut_same _ (All (Allows c.args.from x) ds) _ _ (λ h k d below. h k d (omega (arith, below, c.decisions-test.false)))
    (λ h k d below. h k d (omega (arith, below, c.decisions.auto.decision-index-end))) (c.decisions.invariant x lt)
