-- The goals of `fill_matrix` in src/pair_costs.rt, which puts rows of the matrix of costs into a buffer: what it
-- ensures.
use Rattle.std.proofs.Common.{inl, inr, refl}
use Rattle.tsp_c.proofs.pair_costs.fill_matrix.Goals as goal

-- plan: by whether the text is an instance: its fault is the status, or the rows of its matrix are filled in
pub returns-in-Err : goal.returns-in-Err
returns-in-Err c = inr (c.in-Err.error, c.in-Err.ensures, (c.of_fault.ensures, refl))

pub returns-in-Ok : goal.returns-in-Ok
returns-in-Ok c = inl (c.in-Ok.instance, c.in-Ok.ensures, c.rows_of-status.ensures)
