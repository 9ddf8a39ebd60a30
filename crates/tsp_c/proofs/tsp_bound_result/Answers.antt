-- The goals of `tsp_bound_result` in src/lib.rt, which does what `tsp_bound` does, and returns numbers too: what it
-- ensures.
use Rattle.tsp_c.proofs.tsp_bound_result.Goals as goal

-- plan: the text and the numbers of the bound are placed, and its status is returned
pub returns : goal.returns
returns c =
    let made = c.bound_by-answer.result in (
      made.0.0,
      made.0.1,
      (c.bound_by-answer.ensures.texts, c.bound_by-answer.ensures.numbers),
      c.place-status.ensures,
    )
