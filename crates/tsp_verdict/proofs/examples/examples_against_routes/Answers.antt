-- The goals of `examples_against_routes` in src/examples.rt: what it ensures.
use Rattle.tsp_verdict.proofs.Prelude.{◌<◌, [], ◌∷◌, rules, arith, refl, Contains, of_customers}
use Rattle.tsp_verdict.proofs.examples.examples_against_routes.Goals as goal

-- plan: the example is computed, customer by customer (`customer`)
pub returns-clause-unserved : goal.returns-clause-unserved
returns-clause-unserved c = record {
  applies = search rules;
  none_before = λ other below is. of_customers (λ node. node < 4 → Contains (2 ∷ 3 ∷ []) node) (λ lower. (0, omega arith, refl))
      (λ lower. (1, omega arith, refl)) (λ lower. absurd (omega (arith, lower))) other is below;
}
