-- The goals of `bound_of_runs` in src/run_bound.rt, which returns the bound of a leaf by the least weight of a run:
-- what it ensures.
use Rattle.tsp_routing.proofs.Prelude.{◌≡◌, ◌∙◌, ◌-◌, ℕ, ℤ, ap, ap₂, subst₂, arith, rules, to_z, of_z, FitsSigned, pos, ◌+ℤ◌, ◌-ℤ◌, ◌*ℤ◌, w128, ints, to_z-of_z, IsLeastBound, same_scale}
use Rattle.tsp_routing.specs.PlanBounds.{surplus}
use Rattle.tsp_routing.proofs.RouteProducts.{surplus_is}
use Rattle.tsp_routing.proofs.run_bound.bound_of_runs.Goals as goal

-- plan: no sum overflows, so the quotient that is rounded up is the least bound
pub least_bound-requires-clause-size : goal.least_bound-requires-clause-size
least_bound-requires-clause-size c =
    let size = c.times-routes.ensures.size in
    let back = c.args.sum.back_size in
    (omega (arith, ints, size.0, size.1, back.0, back.1), omega (arith, ints, size.0, size.1, back.0, back.1))

pub returns-clause-bound : goal.returns-clause-bound
returns-clause-bound c = λ problem unit light families case numbers near rows nodes back own least. record {
  each = c.args.each;
  least = least;
  bound_is =
      let found = c.least_bound.result in
      let routes = c.times-routes.result in
      let most : c.args.sum.nodes - 1 ≡ problem.nodes - 1 = omega (arith, nodes) in
      let left : routes ≡ pos (problem.nodes - 1) *ℤ surplus problem numbers.potentials c.args.each =
      c.times-routes.ensures.value
      ∙ ap₂ (λ (k : ℕ) (z : ℤ). pos k *ℤ z) most
      (surplus_is c.args.each c.args.sum.own c.from.result c.requires c.args.sum.own_size c.from.ensures
      ∙ ap (λ z. c.args.each -ℤ (pos 2 *ℤ z)) own) in
      let fits : FitsSigned w128 found = search rules in
      let size = c.times-routes.ensures.size in
      let back_size = c.args.sum.back_size in
      let total : to_z w128 (of_z w128 (to_z w128 (of_z w128 c.args.sum.back) +ℤ to_z w128 (of_z w128 routes))) ≡ c.args.sum.back +ℤ routes =
      omega (arith, ints, size.0, size.1, back_size.0, back_size.1) in
      rw (to_z-of_z w128 found fits)
      (subst₂ (λ (s z : ℤ). IsLeastBound s z found) (same_scale c.args.sum.scale c.args.sum.scaled)
      (total ∙ ap₂ (λ a b. a +ℤ b) back left) c.least_bound.ensures.value);
}
