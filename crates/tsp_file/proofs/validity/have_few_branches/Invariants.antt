-- The loop of `have_few_branches` in src/validity.rt.
use Rattle.tsp_file.proofs.Prelude.{◌≡◌, ◌+◌, ◌≤◌, drop, branch_count, steps_of}
use Rattle.tsp_file.proofs.validity.have_few_branches.Given as goal

-- `total` plus the number of branches left is the number of all branches
abbrev pub invariant-steps : goal.invariant-steps
invariant-steps l =
    (l.total + branch_count (steps_of (drop l.step-index l.steps)) ≡ branch_count (steps_of l.steps)) × (l.total ≤ l.step-index)
