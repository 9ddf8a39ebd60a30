-- The goals of `grow` in src/leaf_rows.rt, of the trait `Growing` for `CaseLeaf`: what it ensures. It grows a tree over
-- the nodes 2..n by least weights.
use Rattle.tsp_branch.proofs.Prelude.{arith, ℕ, ℤ, IfOk-weaker, lent_in, set_weight, decisions_in}
use Rattle.tsp_theory.proofs.Trees.{growth_is_forest}
use Rattle.tsp_branch.specs.states.LeafRows.{decided_by}
use Rattle.tsp_bound.specs.declared.prim.Grown.{Grown}
use Rattle.tsp_branch.proofs.leaf_rows.CaseLeafGrowing.grow.Goals as goal

-- plan: the tree that grows by Prim's method is a forest of least joins over all nodes (`growth_is_forest`)
pub returns-clause-whole : goal.returns-clause-whole
returns-clause-whole g c =
    let leaf = c.args.self.now in
    let s = leaf.context.now in
    let n : ℕ = g.C.Costs.nodes s.costs.now in
    let w : ℕ → ℕ → ℤ = decided_by s.cases.now.directed (decisions_in leaf.case.now)
    (set_weight s.cases.now.scale leaf.potentials.now leaf.multipliers.now (lent_in s.families.now) (g.C.Costs.at s.costs.now)) in
    IfOk-weaker c.grow.result _ _
    (λ (grown : Grown) growth. growth_is_forest n w grown.pairs.items (omega (arith, c.requires.some)) growth) c.grow.ensures.whole
