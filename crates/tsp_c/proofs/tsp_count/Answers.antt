-- The goals of `tsp_count` in src/lib.rt, which fills in how many nodes an instance has: what it ensures.
use Rattle.tsp_c.proofs.tsp_count.Goals as goal

-- plan: the call that fills in the count of nodes ensures the status, which is returned as a number
pub returns : goal.returns
returns c = rw c.number.ensures c.fill_count.ensures
