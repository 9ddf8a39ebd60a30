-- The goals of `tour_leaf_bound` in src/boxed.rt, which bounds a leaf by a minimum 1-tree: what it ensures.
use Rattle.tsp_branch.proofs.Prelude.{◌≡◌, sym, subst, rules, ℤ, FitsSigned, to_z, of_z, ◌+ℤ◌, w128, to_z-of_z, IsLeastBound, same_scale}
use Rattle.tsp_branch.specs.BranchVerdicts.{IsBoundOfWeights}
use Rattle.tsp_branch.proofs.BoxedLeaves.{bounds_each_leaf, sum_is}
use Rattle.tsp_branch.proofs.boxed.tour_leaf_bound.Goals as goal

-- plan: the weight of a minimum 1-tree plus the sum given back, rounded up, bounds each leaf that has these weights
-- (`bounds_each_leaf`)
pub returns : goal.returns
returns g c =
    let n = g.W.Weights.nodes c.args.w.now in
    let w = g.W.Weights.at c.args.w.now in
    let weight : ℤ = c.in_ok-weight.weight in
    let back : ℤ = c.args.given_back in
    let found = c.least_bound.result in
    let fits : FitsSigned w128 c.least_bound.result = search rules in
    let bound : ℤ = to_z w128 (of_z w128 found) in
    let same : bound ≡ found = to_z-of_z w128 found fits in
    let sum = sum_is weight back c.in_ok-weight.ensures.size c.requires.given_back in
    let rounded : IsLeastBound c.args.scale (weight +ℤ back) found = subst (λ (z : ℤ). IsLeastBound c.args.scale z found) sum
    (subst (λ (z : ℤ). IsLeastBound z (to_z w128 (of_z w128 (to_z w128 (of_z w128 weight) +ℤ to_z w128 (of_z w128 back)))) found) (same_scale c.args.scale c.requires.scale)
    c.least_bound.ensures.value) in
    let own : IsBoundOfWeights n w c.args.scale back bound = record {
      weight = weight;
      weighs = c.in_ok-weight.ensures.least;
      bound_is = subst (λ (z : ℤ). IsLeastBound c.args.scale (weight +ℤ back) z) (sym same) rounded;
    } in
    record {
      weights = own;
      leaf = bounds_each_leaf n w c.args.scale back bound own;
      size = rw same c.least_bound.ensures.size;
    }
