-- The goals of `tsp_points` in src/lib.rt, which fills in the coordinates of each node: what it ensures.
use Rattle.tsp_c.proofs.tsp_points.Goals as goal

-- plan: the call that fills in coordinates ensures the status, which is returned as a number
pub returns : goal.returns
returns c = rw c.number.ensures c.fill_points.ensures
