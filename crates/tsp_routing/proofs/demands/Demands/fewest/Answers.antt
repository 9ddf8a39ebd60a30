-- The goals of `Demands::fewest` in src/demands.rt, which counts the routes that all customers need: what it ensures.
use Rattle.tsp_routing.proofs.Prelude.{◌∙◌, subst, rules, ℤ, w64, to_z-of_z, IsLeastRoutes}
use Rattle.tsp_routing.proofs.demands.Demands.fewest.Goals as goal

-- plan: the least routes that carry the sum of all demands, which fits 64 bits, counted up to 100,000
pub returns-clause-fewest : goal.returns-clause-fewest
returns-clause-fewest c = λ cost. record {
  least = c.routes_of.result;
  least_is = subst (λ (z : ℤ). IsLeastRoutes z c.args.self.now.capacity c.routes_of.result)
      (to_z-of_z w64 c.all.result (search rules) ∙ c.all.ensures.value) c.routes_of.ensures;
  fewest_is = c.counted.ensures.value;
}
