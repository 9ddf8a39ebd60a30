-- The goals of `examples_against_trees` in src/examples.rt: what it ensures.
use Rattle.tsp_verdict.proofs.Prelude.{false, [], ◌∷◌, refl, inl, inr, arith, pos, All-nil, IsFamily}
use Rattle.tsp_format.specs.Steps.{Branch, Leaf}
use Rattle.tsp_cases.specs.Examples.{with_pair}
use Rattle.tsp_cases.specs.ListedCases.{AreGoodNumbers}
use Rattle.tsp_verdict.specs.Examples.{two_leaves, three_leaves}
use Rattle.tsp_cases.proofs.Passes.{first_bad_by_place, first_twice_by_place}
use Rattle.tsp_verdict.proofs.examples.examples_against_trees.Goals as goal

-- plan: each example by its place (`first_bad_by_place`, `first_twice_by_place`)
pub returns-clause-node_twice : goal.returns-clause-node_twice
returns-clause-node_twice c = record {
  applies = ((omega arith, omega arith), λ good. good.once 0 [] (omega arith) 0 2 0 (omega arith) (omega arith) refl);
  none_before = λ earlier before from. absurd (omega (arith, from, before));
}

pub returns-clause-again : goal.returns-clause-again
returns-clause-again c = (_, refl, first_twice_by_place false [] (Branch 1 2 ∷ Branch 1 2 ∷ three_leaves) 2 (inr (refl, inl (refl, refl))))

pub returns-clause-fixed : goal.returns-clause-fixed
returns-clause-fixed c = (_, refl, first_twice_by_place false (with_pair 2 1 ∷ []) (Branch 1 2 ∷ two_leaves) 1 (inl (refl, refl)))

pub returns-clause-past_the_nodes : goal.returns-clause-past_the_nodes
returns-clause-past_the_nodes c = (
  _,
  refl,
  [],
  record { many = refl; are = All-nil (IsFamily 4) },
  first_bad_by_place (AreGoodNumbers 4 []) 4 0 (Leaf ((5, pos 1) ∷ []) ∷ []) 1
      (inl (refl, λ good. let inside = (good.indexes 0 (0, pos 0) (omega arith)).1 in omega (arith, inside))),
)
