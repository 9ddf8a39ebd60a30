-- The goals of `put_steps` in src/writer.rt: its loop and what it ensures.
use Rattle.tsp_file.proofs.Prelude.{arith, step_of, way_of, carried_mapped, carried_none, carried_next}
use Rattle.tsp_file.specs.CanonicalText.{step_line}
use Rattle.tsp_file.proofs.writer.put_steps.Goals as goal

pub steps-init : goal.steps-init
steps-init g c = carried_none (way_of g.W.Takes.contents c.args.out.now c.args.piece.now.items)

-- plan: the line of one branch or leaf more is added (`carried_next`)
pub steps-preserved : goal.steps-preserved
steps-preserved g c =
    let start = way_of g.W.Takes.contents c.args.out.now c.args.piece.now.items in
    let before = way_of g.W.Takes.contents c.steps.out c.steps.piece.items in
    let after = way_of g.W.Takes.contents c.put_step.new.out c.put_step.new.piece.items in
    carried_next (λ step. step_line (step_of step)) c.args.steps.now c.steps.step-index c.step-item.result start before after
    c.steps-test.true c.step-item.is c.steps.invariant c.put_step.ensures

pub returns : goal.returns
returns g c = carried_mapped step_line step_of c.args.steps.now c.steps.step-index
    (way_of g.W.Takes.contents c.args.out.now c.args.piece.now.items) (way_of g.W.Takes.contents c.steps.out c.steps.piece.items)
    (omega arith) c.steps.invariant
