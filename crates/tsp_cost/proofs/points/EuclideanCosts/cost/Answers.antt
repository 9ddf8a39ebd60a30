-- The goals of `cost` in src/points.rt, of the trait `Costs` for `Euclidean`: what it ensures. It returns the
-- distance of two nodes' points.
use Rattle.tsp_cost.proofs.Prelude.{ℕ, ℤ, ap, ◌∙◌, rules, w64, SFits, to_z-of_z}
use Rattle.tsp_cost.proofs.points.EuclideanCosts.cost.Goals as goal

-- plan: the cost is that of the points under EUC_2D
pub returns-clause-value : goal.returns-clause-value
returns-clause-value c =
    let fits : SFits w64 c.cost.result = search rules in
    to_z-of_z w64 c.cost.result fits ∙ c.cost.ensures.value ∙ ap (λ (costs : ℕ → ℕ → ℤ). costs c.args.i c.args.j) c.with.ensures.costs
