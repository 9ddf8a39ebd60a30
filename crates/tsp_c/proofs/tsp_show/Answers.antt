-- The goals of `tsp_show` in src/lib.rt, which writes what `tsp show` prints: what it ensures.
use Rattle.tsp_c.proofs.tsp_show.Goals as goal

-- plan: the lines that show the file are placed, and the status is returned
pub returns : goal.returns
returns c =
    let made = c.shown-answer.result in
    (made.0, made.1, c.shown-answer.ensures, c.place-status.ensures)
