-- The goals of `tsp_weights` in src/lib.rt, which fills in the costs of pairs of nodes: what it ensures.
use Rattle.tsp_c.proofs.tsp_weights.Goals as goal

-- plan: the call that fills in costs of pairs ensures the status, which is returned as a number
pub returns : goal.returns
returns c = rw c.number.ensures c.fill_weights.ensures
