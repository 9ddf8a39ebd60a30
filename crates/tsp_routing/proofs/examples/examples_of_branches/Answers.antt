-- The goals of `examples_of_branches` in src/examples.rt: what it ensures.
use Rattle.tsp_routing.proofs.Prelude.{[], ◌∷◌, arith}
use Rattle.tsp_format.specs.Steps.{Branch, Leaf}
use Rattle.tsp_cases.proofs.TreeBranches.{within_at_start, bad_at_branch}
use Rattle.tsp_routing.proofs.examples.examples_of_branches.Goals as goal

-- plan: the first branch of each example is bad (`bad_at_branch`)
pub returns-clause-family_more : goal.returns-clause-family_more
returns-clause-family_more c = bad_at_branch 5 5 (Branch 6 1 ∷ Leaf [] ∷ Leaf [] ∷ []) 0 6 1 (Leaf [] ∷ Leaf [] ∷ [])
    (within_at_start 5 5 (Branch 6 1 ∷ Leaf [] ∷ Leaf [] ∷ [])) (λ h. omega (arith, h.1))

pub returns-clause-last_node : goal.returns-clause-last_node
returns-clause-last_node c = bad_at_branch 5 5 (Branch 4 1 ∷ Leaf [] ∷ Leaf [] ∷ []) 0 4 1 (Leaf [] ∷ Leaf [] ∷ [])
    (within_at_start 5 5 (Branch 4 1 ∷ Leaf [] ∷ Leaf [] ∷ [])) (λ h. omega (arith, h.0))

pub returns-clause-no_family : goal.returns-clause-no_family
returns-clause-no_family c = bad_at_branch 5 4 (Branch 5 1 ∷ Leaf [] ∷ Leaf [] ∷ []) 0 5 1 (Leaf [] ∷ Leaf [] ∷ [])
    (within_at_start 5 4 (Branch 5 1 ∷ Leaf [] ∷ Leaf [] ∷ [])) (λ h. omega (arith, h.1))
