-- The loop of `put_steps` in src/writer.rt.
use Rattle.tsp_file.proofs.Prelude.{take, flat_map, step_of, way_of, Carried}
use Rattle.tsp_file.specs.CanonicalText.{step_line}
use Rattle.tsp_file.proofs.writer.put_steps.Given as goal

-- the bytes added so far are the lines of the steps before this one
abbrev pub invariant-steps : goal.invariant-steps
invariant-steps g l =
    Carried (way_of g.W.Takes.contents l.initial.out l.initial.piece.items) (way_of g.W.Takes.contents l.out l.piece.items)
    (flat_map (λ step. step_line (step_of step)) (take l.step-index l.steps))
