-- The goals of `solved` in src/solution_call.rt, which gives the text that is written for a solution: what it ensures.
use Rattle.std.proofs.Common.{◌∙◌, inl}
use Rattle.tsp_c.proofs.solution_call.solved.Goals as goal

-- plan: the text is that of `solution_text`, for the instance that has bytes
pub returns-in-Ok : goal.returns-in-Ok
returns-in-Ok c =
    let answer = rw (c.known.ensures) at c.in-Ok.ensures in
    let made = c.done.ensures in
    inl (made.0, (answer.0, answer.1, (answer.2.0, answer.2.1, made.1 ∙ answer.2.2)))
