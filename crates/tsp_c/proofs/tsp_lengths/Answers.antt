-- The goals of `tsp_lengths` in src/lib.rt, which fills in the lengths of lists of nodes: what it ensures.
use Rattle.tsp_c.proofs.tsp_lengths.Goals as goal

-- plan: the call that fills in the lengths of the lists ensures the status, which is returned as a number
pub returns : goal.returns
returns c = rw c.number.ensures c.fill_lengths.ensures
