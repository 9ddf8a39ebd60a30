-- The goals of `examples_of_first_reasons` in src/examples.rt: what it ensures.
use Rattle.tsp_verdict.proofs.Prelude.{◌<◌, [], ◌∷◌, rules, arith, refl, inl, pos, Contains, All-nil, IsFamily, of_customers}
use Rattle.tsp_cases.specs.ListedCases.{AreGoodNumbers}
use Rattle.tsp_verdict.specs.Examples.{bad_leaves}
use Rattle.tsp_cases.proofs.Passes.{first_bad_by_place}
use Rattle.tsp_verdict.proofs.examples.examples_of_first_reasons.Goals as goal

-- plan: each example is computed, customer by customer or leaf by leaf
pub returns-clause-unserved : goal.returns-clause-unserved
returns-clause-unserved c = record {
  applies = search rules;
  none_before = λ other below is. of_customers (λ node. node < 3 → Contains (2 ∷ []) node) (λ lower. (0, omega arith, refl))
      (λ lower. absurd (omega (arith, lower))) (λ lower. absurd (omega (arith, lower))) other is below;
}

pub returns-clause-unserved_later : goal.returns-clause-unserved_later
returns-clause-unserved_later c = λ is. search (rules, is.none_before 3)

pub returns-clause-leaf : goal.returns-clause-leaf
returns-clause-leaf c = (
  _,
  refl,
  [],
  record { many = refl; are = All-nil (IsFamily 4) },
  first_bad_by_place (AreGoodNumbers 4 []) 4 0 bad_leaves 1
      (inl (refl, λ good. let inside = (good.indexes 0 (0, pos 0) (omega arith)).1 in omega (arith, inside))),
)
