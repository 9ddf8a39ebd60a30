-- The goals of `examples_of_bad_branches` in src/examples.rt: what it ensures.
use Rattle.tsp_cases.proofs.Prelude.{[], ◌∷◌, refl, arith, All-from_recursion}
use Rattle.tsp_cases.specs.ListedCases.{BeginsWithin}
use Rattle.tsp_cases.specs.Examples.{branches, branches_apart}
use Rattle.tsp_cases.proofs.TreeBranches.{within_at_start, bad_at_branch, none_bad}
use Rattle.tsp_cases.proofs.examples.examples_of_bad_branches.Goals as goal

-- plan: for each example, the branches before the bad one are good (`bad_at_branch`), or all are (`none_bad`)
pub returns : goal.returns
returns c = record {
  family = bad_at_branch 1 4 (branches 1 2 5 1) 1 5 1 []
      (record { done = (1, 2) ∷ []; split = refl; within = ((omega arith, omega arith), tt); counted = refl }) (λ h. omega (arith, h.1));
  family_first = bad_at_branch 1 4 (branches 5 1 6 1) 0 5 1 _ (within_at_start 1 4 (branches 5 1 6 1)) (λ h. omega (arith, h.1));
  after_a_leaf = λ changes. bad_at_branch 1 4 (branches_apart 1 2 5 1 changes) 1 5 1 []
      (record { done = (1, 2) ∷ []; split = refl; within = ((omega arith, omega arith), tt); counted = refl }) (λ h. omega (arith, h.1));
  last_node = (none_bad 1 4 (branches 4 1 1 2) (All-from_recursion (BeginsWithin 1 4) ((4, 1) ∷ (1, 2) ∷ [])
      ((omega arith, omega arith), ((omega arith, omega arith), tt)))).0;
  pair = bad_at_branch 5 6 (branches 6 1 1 2) 1 1 2 []
      (record { done = (6, 1) ∷ []; split = refl; within = ((omega arith, omega arith), tt); counted = refl }) (λ h. omega (arith, h.0));
  third_family = bad_at_branch 5 6 (branches 7 1 5 1) 0 7 1 _ (within_at_start 5 6 (branches 7 1 5 1)) (λ h. omega (arith, h.1));
  both_families = (none_bad 5 6 (branches 5 4 6 1) (All-from_recursion (BeginsWithin 5 6) ((5, 4) ∷ (6, 1) ∷ [])
      ((omega arith, omega arith), ((omega arith, omega arith), tt)))).0;
  listed_pair = λ node. ((omega arith, omega arith), λ e. omega (arith, e));
  listed_node_twice = λ is. (is (omega arith, omega arith)).1 refl;
  listed_family = λ node. omega (arith, node.1);
}
