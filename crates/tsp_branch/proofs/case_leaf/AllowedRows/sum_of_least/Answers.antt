-- The goals of `AllowedRows::sum_of_least` in src/case_leaf.rt, which sums the least links of all nodes of an ATSP: its
-- loop and what it ensures.
use Rattle.tsp_branch.proofs.Prelude.{◌+◌, ◌≤◌, ◌∙◌, ℤ, arith, rules, FitsSigned, to_z, w64, w128, ints, to_z-of_z, most_nodes, decisions_in}
use Rattle.tsp_branch.proofs.CaseLeaves.{sum_none, sum_more, size_more, sum_computed}
use Rattle.tsp_branch.proofs.case_leaf.AllowedRows.sum_of_least.Goals as goal

pub nodes-init : goal.nodes-init
nodes-init g c = record {
  sum = sum_none (g.W.Weights.nodes c.args.self.now.weights.now) (g.W.Weights.at c.args.self.now.weights.now) (decisions_in c.args.self.now.case.now);
  size = (omega (arith, ints), omega (arith, ints));
}

-- plan: one node more adds its least link (`sum_more`); a node without one ends it (`sum_none`)
pub nodes-preserved : goal.nodes-preserved
nodes-preserved g c =
    let n = g.W.Weights.nodes c.args.self.now.weights.now in
    let w = g.W.Weights.at c.args.self.now.weights.now in
    let sum : ℤ = to_z w128 c.nodes.sum-bits in
    let least : ℤ = c.in-Some.least in
    let fits : FitsSigned w64 c.in-Some.least = search rules in
    let few : c.nodes.index ≤ most_nodes = omega (arith, c.nodes-test.true, c.count-index-end.ensures.most) in
    let is = sum_computed sum least c.from-sum.result c.nodes.index few c.nodes.invariant.size fits (c.from-sum.ensures ∙ to_z-of_z w64 least fits) in
    record {
      sum = rw is (sum_more n w (decisions_in c.args.self.now.case.now) c.nodes.index sum least c.nodes.invariant.sum c.in-Some.ensures);
      size = rw is (size_more sum least c.nodes.index c.nodes.invariant.size fits);
    }

pub returns-in_default-clause-sum : goal.returns-in_default-clause-sum
returns-in_default-clause-sum g c = record {
  from = c.nodes.index + 1;
  node = (omega arith, omega (arith, c.nodes-test.true, c.count-index-end.ensures.value));
  none = c.in_default.ensures;
}
