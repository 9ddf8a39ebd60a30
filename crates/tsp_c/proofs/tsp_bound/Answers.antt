-- The goals of `tsp_bound` in src/lib.rt, which bounds the tours of an instance, by the number of the certificate's
-- kind: what it ensures.
use Rattle.tsp_c.proofs.tsp_bound.Goals as goal

-- plan: the text of the bound is placed, and its status is returned
pub returns : goal.returns
returns c =
    let made = c.bound_by-answer.result in
    (made.0.0, made.0.1, c.bound_by-answer.ensures.texts, c.place-status.ensures)
