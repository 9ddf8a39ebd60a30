-- The goals of `tsp_convert` in src/lib.rt, which converts a file, by the number of the layout: what it ensures.
use Rattle.tsp_c.proofs.tsp_convert.Goals as goal

-- plan: the text of the file in its new layout is placed, and the status is returned
pub returns : goal.returns
returns c =
    let made = c.convert_by-answer.result in
    (made.0, made.1, c.convert_by-answer.ensures, c.place-status.ensures)
