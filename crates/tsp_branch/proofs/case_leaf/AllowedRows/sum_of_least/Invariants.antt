-- The loop of `AllowedRows::sum_of_least` in src/case_leaf.rt, which sums the least links of all nodes of an ATSP.
use Rattle.tsp_branch.proofs.Prelude.{IsSumSized, IsSumOfLeast, decisions_in}
use Rattle.tsp_branch.proofs.case_leaf.AllowedRows.sum_of_least.Given as goal

-- `sum` is that of the least weights from the first nodes, as many as `index`
abbrev pub invariant-nodes : goal.invariant-nodes
invariant-nodes g l = record {
  sum : IsSumOfLeast (g.W.Weights.nodes l.self.weights.now) (g.W.Weights.at l.self.weights.now) (decisions_in l.self.case.now) l.index l.sum;
  size : IsSumSized l.index l.sum;
}
