-- The goals of `close_row` in src/case_leaf.rt, which closes the links from a node that a case doesn't allow: what it
-- ensures.
use Rattle.std.proofs.Common.{arith, length}
use Rattle.tsp_branch.proofs.CaseLeaves.{opened}
use Rattle.tsp_branch.proofs.case_leaf.close_row.Goals as goal

-- plan: the node itself, then its decisions, then the taken pairs are closed, so the open links are the allowed ones
-- (`opened`)
pub returns : goal.returns
returns c = λ n w case room read own_is taken_is.
    opened n w case c.args.own.now c.args.taken.now c.args.from (length c.args.row.now) c.args.row.now c.shut.new.row c.close_all.new.row _ room read own_is taken_is
    c.shut.ensures.here c.shut.ensures.others
    (λ x lt. c.close_all.ensures x (omega (arith, lt, c.shut.auto.row)))
    (λ x lt. c.close_all-2.ensures x (omega (arith, lt, c.shut.auto.row, c.close_all.auto.row)))
