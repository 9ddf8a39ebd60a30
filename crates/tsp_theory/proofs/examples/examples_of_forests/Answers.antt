-- The goals of `examples_of_forests` in src/examples.rt: what it ensures.
use Rattle.tsp_theory.proofs.Prelude.{◌≡◌, ◌==◌, false, [], ◌∷◌, inl, inr, rules, arith, refl, ◌∙◌, ◌≤ℤ◌, cases_Bool, both_ways, ints, All-nil, All-cons, All-head}
use Rattle.tsp_theory.specs.Tree.{crosses}
use Rattle.tsp_theory.specs.Forest.{IsWholeForest}
use Rattle.tsp_theory.specs.Examples.{rectangle_costs, rectangle}
use Rattle.tsp_theory.proofs.Exchange.{same_side}
use Rattle.tsp_theory.proofs.Trees.{least_from_forest}
use Rattle.tsp_theory.proofs.SmallTrees.{inner, nearest_so, join_so, costs_even}
use Rattle.tsp_theory.proofs.examples.examples_of_forests.Goals as goal

-- node 4 is nearest to node 3, and so is node 2
both_ends : IsWholeForest 4 rectangle ((4, 3) ∷ (2, 3) ∷ [])
both_ends = record {
  joins = (
    join_so rectangle [] 4 3 (omega arith, omega arith) (omega arith, omega arith) refl
        (All-nil (λ pair. crosses (λ x. x == 4) pair ≡ false))
        (inner (λ b. (b == 4) ≡ false → rectangle 4 3 ≤ℤ rectangle 4 b) (λ out. search rules) (λ out. search rules)
        (λ out. absurd (both_ways (4 == 4) out refl))),
    (
      join_so rectangle ((4, 3) ∷ []) 2 3 (omega arith, omega arith) (omega arith, omega arith) refl
          (All-cons (λ pair. crosses (λ x. x == 2) pair ≡ false) (4, 3) [] refl
          (All-nil (λ pair. crosses (λ x. x == 2) pair ≡ false)))
          (inner (λ b. (b == 2) ≡ false → rectangle 2 3 ≤ℤ rectangle 2 b) (λ out. absurd (both_ways (2 == 2) out refl))
          (λ out. search rules) (λ out. search rules)),
      tt,
    ),
  );
  count = refl;
}

-- plan: each step is a least join (`join_so`, `nearest_so`), and `least_from_forest` says that the whole is least
pub returns-clause-from_both_ends : goal.returns-clause-from_both_ends
returns-clause-from_both_ends c = both_ends

pub returns-clause-least : goal.returns-clause-least
returns-clause-least c =
    least_from_forest 4 rectangle 2 4 ((4, 3) ∷ (2, 3) ∷ []) ((4, 3) ∷ (2, 3) ∷ []) _ (omega arith) (costs_even rectangle_costs)
    (nearest_so rectangle 4 3 (search rules)) both_ends refl refl

-- the pair of node 3 with node 4 or with node 2 leaves the part too
pub returns-clause-heavier : goal.returns-clause-heavier
returns-clause-heavier c = λ forest.
    let leaving = forest.joins.0.leaving in
    elim (cases_Bool (forest.joins.0.part 3)) [
      | inl t ↦ let less : rectangle 2 4 ≤ℤ rectangle 3 4 =
          leaving.least 3 4 (omega arith, omega arith) (omega arith, omega arith) t leaving.to in omega (arith, ints, less)
      | inr f ↦ let less : rectangle 2 4 ≤ℤ rectangle 2 3 =
          leaving.least 2 3 (omega arith, omega arith) (omega arith, omega arith) leaving.from f in omega (arith, ints, less)
    ]

pub returns-clause-same_twice : goal.returns-clause-same_twice
returns-clause-same_twice c = λ forest.
    let second = forest.joins.1.0 in
    let level = same_side second.part (4, 3) (All-head (λ pair. crosses second.part pair ≡ false) (4, 3) [] second.uncrossed) in
    both_ways (second.part 4) second.leaving.to (level ∙ second.leaving.from)
