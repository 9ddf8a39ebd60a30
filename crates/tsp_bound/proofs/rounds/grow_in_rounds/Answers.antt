-- The goals of `grow_in_rounds` in src/rounds.rt, which finds a least tree over the nodes 2 to n: what it ensures.
use Rattle.tsp_bound.proofs.Prelude.{arith, growth_is_forest, IsWholeGrowth}
use Rattle.tsp_theory.specs.Forest.{IsWholeForest}
use Rattle.tsp_bound.specs.declared.prim.Grown.{Grown}
use Rattle.tsp_bound.proofs.RoundJoins.{if_ok_more}
use Rattle.tsp_bound.proofs.rounds.grow_in_rounds.Goals as goal

-- plan: the tree that grows is a forest of least joins (`growth_is_forest`)
pub returns-clause-whole : goal.returns-clause-whole
returns-clause-whole g c =
    let n = g.W.Weights.nodes c.args.w.now in
    let w = g.W.Weights.at c.args.w.now in
    if_ok_more c.grow.result (λ (grown : Grown). IsWholeGrowth n w grown.pairs.items) (λ (grown : Grown). IsWholeForest n w grown.pairs.items)
    (λ (grown : Grown) growth. growth_is_forest n w grown.pairs.items (omega (arith, c.requires.some)) growth) c.grow.ensures.whole
