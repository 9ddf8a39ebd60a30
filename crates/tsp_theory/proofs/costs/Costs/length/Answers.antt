-- The goals of `Costs::length` in src/costs.rt, which sums the costs around a list of nodes: its loop and what its
-- calls require.
use Rattle.tsp_theory.proofs.Prelude.{◌≤◌, List, ℕ, subst, arith, to_z, drop-cons, add-one, ℤ, slice_index_or, w64, All, All-tail, IsNode}
use Rattle.tsp_theory.proofs.Sums.{sum_fits, lengths_sum_more, length_more}
use Rattle.tsp_theory.proofs.costs.Costs.length.Goals as goal

pub cost-length-requires-clause-to : goal.cost-length-requires-clause-to
cost-length-requires-clause-to g c =
    let IsIn : ℕ → Type 0 = IsNode (g.Self.Costs.nodes c.args.self.now) in
    let first : ℕ = c.in-Some.first.now in
    let others : List ℕ = c.in-Some.others.now in
    All-tail IsIn first others (subst (λ (xs : List ℕ). All IsIn xs) c.in-Some.ensures.cases.0 c.requires.range)
    c.nodes.node-index 0 c.nodes-test.true

-- plan: one step more is one cost more (`length_more`), and the sum fits 64 bits (`sum_fits`)
pub nodes-preserved : goal.nodes-preserved
nodes-preserved g c =
    let IsIn : ℕ → Type 0 = IsNode (g.Self.Costs.nodes c.args.self.now) in
    let first : ℕ = c.in-Some.first.now in
    let others : List ℕ = c.in-Some.others.now in
    let index : ℕ = c.nodes.node-index in
    let next : ℕ = slice_index_or others index 0 in
    let so_far : ℤ = to_z w64 c.nodes.length-bits in
    let cost = c.cost-length.ensures in
    let few : index ≤ 1000000 = omega (arith, c.in-Some.ensures.cases.1, c.requires.size) in
    let sum = sum_fits so_far c.cost-length.result index few c.nodes.invariant.size cost.low cost.high in
    record {
      from = All-tail IsIn first others (subst (λ (xs : List ℕ). All IsIn xs) c.in-Some.ensures.cases.0 c.requires.range) index 0
          c.nodes-test.true;
      size = rw sum (lengths_sum_more so_far c.cost-length.result index c.nodes.invariant.size cost.low cost.high);
      so_far = rw (sum, cost.value, add-one index)
          (length_more (g.Self.Costs.at c.args.self.now) so_far _ first c.nodes.from next _ _
          (drop-cons others index 0 c.nodes-test.true) c.nodes.invariant.so_far);
    }
