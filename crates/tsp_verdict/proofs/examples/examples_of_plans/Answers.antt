-- The goals of `examples_of_plans` in src/examples.rt: what it ensures.
use Rattle.tsp_verdict.proofs.Prelude.{[], ◌∷◌, rules, arith, refl, Contains, of_customers}
use Rattle.tsp_verdict.proofs.examples.examples_of_plans.Goals as goal

-- plan: each example is computed, customer by customer (`customer`)
pub returns-clause-at_capacity : goal.returns-clause-at_capacity
returns-clause-at_capacity c = record {
  customers = search rules;
  once = search rules;
  served = of_customers (Contains (2 ∷ 3 ∷ 4 ∷ [])) (0, omega arith, refl) (1, omega arith, refl) (2, omega arith, refl);
  within = search rules;
}

-- of the nodes 2, 3, 3 and 4 those at the places 1 and 2 are the same
pub returns-clause-twice : goal.returns-clause-twice
returns-clause-twice c = λ plan. plan.once 1 2 0 (omega arith) (omega arith) refl
