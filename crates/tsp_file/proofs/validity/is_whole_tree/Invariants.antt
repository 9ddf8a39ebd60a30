-- The loop of `is_whole_tree` in src/validity.rt, which tests whether steps are one whole tree of cases.
use Rattle.tsp_file.proofs.Prelude.{◌≡◌, ◌+◌, ◌≤◌, drop, are_whole, steps_of}
use Rattle.tsp_file.proofs.validity.is_whole_tree.Given as goal

-- the steps are one whole tree exactly if those left are `left` whole trees
abbrev pub invariant-steps : goal.invariant-steps
invariant-steps l =
    (are_whole l.left (steps_of (drop l.step-index l.steps)) ≡ are_whole 1 (steps_of l.steps)) × (l.left ≤ l.step-index + 1)
