-- The goals of `solution_by` in src/solution_call.rt, which reads a solution by numbers: what it ensures.
use Rattle.std.proofs.Common.{arith}
use Rattle.tsp_c.specs.SolutionCall.{SolvesText}
use Rattle.tsp_c.proofs.solution_call.solution_by.Goals as goal

-- plan: the numbers are small enough, so they say what `hints_of` gives
pub returns : goal.returns
returns c =
    let form = c.if-numbers-gt10.false in
    let first = c.if-numbers-gt2.false in
    let depot = c.if-numbers-gt-MOST_NODES.false in (
      λ few low inside. rw c.hints_of.ensures at c.solved.ensures,
      λ many. absurd (omega (arith, form, many)),
      λ many. absurd (omega (arith, first, many)),
      λ many. absurd (omega (arith, depot, many)),
    )
