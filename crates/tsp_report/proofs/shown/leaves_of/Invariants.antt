-- The loop of `leaves_of` in src/shown.rt.
use Rattle.std.proofs.Common.{◌≡◌, ◌+◌, ◌≤◌, drop}
use Rattle.tsp_format.specs.Steps.{leaf_count}
use Rattle.tsp_format.specs.states.TreeSteps.{steps_of}
use Rattle.tsp_report.proofs.shown.leaves_of.Given as goal

-- `leaves` and the leaves among the steps left are all leaves
abbrev pub invariant-steps : goal.invariant-steps
invariant-steps l =
    (l.leaves + leaf_count (steps_of (drop l.step-index l.steps)) ≡ leaf_count (steps_of l.steps)) × (l.leaves ≤ l.step-index)
