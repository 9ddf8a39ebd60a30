-- The goals of `placed_steps` in src/run_verdict.rt, which puts all differences at places: its loop.
use Rattle.tsp_routing.proofs.Prelude.{ap, ◌∙◌, get_or_default}
use Rattle.tsp_format.specs.states.TreeSteps.{step_of}
use Rattle.tsp_format.specs.declared.steps.TreeStep.{TreeStep}
use Rattle.tsp_routing.specs.RunTrees.{step_with_places}
use Rattle.tsp_routing.proofs.RunJudging.{steps_pushed}
use Rattle.tsp_routing.proofs.run_verdict.placed_steps.Goals as goal

-- plan: step by step
pub steps-preserved : goal.steps-preserved
steps-preserved c =
    steps_pushed c.args.nodes c.args.families c.steps.placed.items _ _ c.args.steps.now c.steps.step-index c.in_ok-own.own c.steps-test.true
    c.in_ok-push.ensures.items
    (c.in_ok-own.ensures ∙ ap (λ (step : TreeStep). step_with_places c.args.nodes c.args.families (step_of step))
    (c.step-item.is ∙ get_or_default c.args.steps.now c.steps.step-index c.step-item.result c.in_ok-own.own c.steps-test.true)) c.steps.invariant
