-- The goals of `tsp_matrix` in src/lib.rt, which fills in rows of the matrix of costs: what it ensures.
use Rattle.tsp_c.proofs.tsp_matrix.Goals as goal

-- plan: the call that fills in rows of the matrix ensures the status, which is returned as a number
pub returns : goal.returns
returns c = rw c.number.ensures c.fill_matrix.ensures
