-- The goals of `examples_of_multipliers` in src/examples.rt: what it ensures.
use Rattle.tsp_theory.proofs.Prelude.{rules, arith, refl, inl, inr, [], ◌∷◌, pos, All-from_recursion}
use Rattle.tsp_theory.specs.Tour.{AreNeighbours}
use Rattle.tsp_theory.specs.Bounds.{pair_of, UsesNone}
use Rattle.tsp_theory.specs.Examples.{on_diagonals}
use Rattle.tsp_theory.proofs.examples.examples_of_multipliers.Goals as goal

-- plan: each example is computed from the definition
-- 1 and 3 are the first link, 2 and 4 the third
pub returns-clause-used : goal.returns-clause-used
returns-clause-used c =
    All-from_recursion (λ triple. AreNeighbours (1 ∷ 3 ∷ 2 ∷ 4 ∷ []) (pair_of triple)) (on_diagonals (pos 2) (pos 1))
    (inl (0, omega arith, refl), (inr (2, omega arith, refl), tt))

pub returns-clause-not_used : goal.returns-clause-not_used
returns-clause-not_used c =
    let none : UsesNone (on_diagonals (pos 2) (pos 1)) (1 ∷ 2 ∷ 3 ∷ 4 ∷ []) = search rules in
    λ each. none 0 (0, 0, pos 0) (omega arith) (each 0 (0, 0, pos 0) (omega arith))
