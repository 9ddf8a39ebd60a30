-- The goals of `written_for` in src/form_check.rt, which gives the text that is written for a solution: what it ensures.
use Rattle.tsp_tool.proofs.form_check.written_for.Goals as goal

pub returns-in-Ok : goal.returns-in-Ok
returns-in-Ok c = c.in-Ok.ensures

pub returns-in-Err : goal.returns-in-Err
returns-in-Err c = (c.in-Err.fault, c.by_check_number.ensures, c.in-Err.ensures)
