-- The loop of `have_few_changes` in src/validity.rt.
use Rattle.tsp_file.proofs.Prelude.{◌≡◌, ◌+◌, ◌≤◌, drop, change_count, steps_of, most_changes}
use Rattle.tsp_file.proofs.validity.have_few_changes.Given as goal

-- `total` plus the number of differences left is the number of all differences, and `total` is within the limit
abbrev pub invariant-steps : goal.invariant-steps
invariant-steps l =
    (l.total + change_count (steps_of (drop l.step-index l.steps)) ≡ change_count (steps_of l.steps)) × (l.total ≤ most_changes)
