-- The goals of `tsp_solution` in src/lib.rt, which reads a solution in any form: what it ensures.
use Rattle.tsp_c.proofs.tsp_solution.Goals as goal

-- plan: the text or the line of the fault is placed, and the status is returned
pub returns : goal.returns
returns c =
    let made = c.solution_by-answer.result in
    (made.0, made.1, c.solution_by-answer.ensures, c.place-status.ensures)
