-- The loop of `placed_steps` in src/run_verdict.rt.
use Rattle.std.proofs.Common.{◌≡◌, ◌++◌, drop}
use Rattle.tsp_format.specs.states.TreeSteps.{steps_of}
use Rattle.tsp_routing.specs.RunTrees.{placed_steps}
use Rattle.tsp_routing.proofs.run_verdict.placed_steps.Given as goal

-- with the steps left, the list has all
abbrev pub invariant-steps : goal.invariant-steps
invariant-steps l = steps_of l.placed.items ++ placed_steps l.nodes l.families (steps_of (drop l.step-index l.steps))
    ≡ placed_steps l.nodes l.families (steps_of l.steps)
